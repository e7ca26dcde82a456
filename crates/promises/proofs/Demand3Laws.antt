-- Demand 3 holds of every list of calls that met their promises.
use Rattle.std.specs.Prelude.{ℕ, ◌*◌, ◌≡◌, refl, Bool, true, false, List, ◌++◌, length, take, drop, T, ltb, eqb}
use Rattle.std.proofs.Common.{sym, ap, subst, ◌∙◌}
use Rattle.std.proofs.Math.Facts.{eqb_yes}
use Rattle.basics.specs.Basics.{when◌then◌else◌}
use Rattle.settings.specs.declared.Settings.{Settings}
use Rattle.settings.specs.Numbers.{settings_number}
use Rattle.settings.specs.NumbersLaws.{legal_settings}
use Rattle.settings.specs.Buckets.{directory_length}
use Rattle.stack.specs.Stack.{Plain, empty}
use Rattle.stack.specs.Entries.{plain}
use Rattle.layout.specs.Layout.{fresh_words, fresh_number}
use Rattle.layout.specs.Sound.{settings_in}
use Rattle.layout.proofs.FreshWordLaws.{settings_fresh}
use Rattle.layout.proofs.FreshLaws.{sound_fresh, view_fresh}
use Rattle.promises.specs.Promises.{Fresh}
use Rattle.promises.specs.Demand3.{starts, Alike, Demand3}
use Rattle.promises.proofs.FollowLaws.{demand3_from}

accepted_legal : (s : Settings) (n : ℕ) → fresh_number s n ≡ 0 → settings_number s ≡ 0
unfolding fresh_number
accepted_legal s n = go (eqb (settings_number s) 0) eqb_yes
  where
    go : (b : Bool) → (T b → settings_number s ≡ 0) → (when b then (when ltb n (directory_length s) then 5 else 0) else settings_number s) ≡ 0
        → settings_number s ≡ 0
    go true f e = f tt
    go false f e = e

pub fresh_legal : (s : Settings) (before directory : List ℕ) → Fresh s before 0 directory → settings_number s ≡ 0
fresh_legal s before directory fresh = accepted_legal s (length before) (sym fresh.returned)

module _ (s : Settings) (ok : settings_number s ≡ 0) (rest bytes store : List ℕ) where
  abbrev ws : List ℕ
  ws = fresh_words s ++ rest

  begins_alike : Alike (record { directory = ws; bytes = bytes; store = store }) (starts s store) (drop (s.m * s.b) store)
  begins_alike =
      record {
        is_sound = sound_fresh s ok rest;
        same =
            ap (λ k. plain (record { stack = k; bytes = take ((settings_in ws).n * (settings_in ws).b) bytes }))
            (view_fresh s ok rest (take ((settings_in ws).m * (settings_in ws).b) store))
            ∙ ap (λ (x : Settings). starts_with (take (x.m * x.b) store)) (settings_fresh s (legal_settings s ok) rest);
        past = refl;
      }
    where
      starts_with : List ℕ → Plain
      starts_with st = empty s st

-- a fresh directory is alike to the plain stack at its start
begins : (s : Settings) (before directory bytes store : List ℕ) → Fresh s before 0 directory
    → Alike (record { directory = directory; bytes = bytes; store = store }) (starts s store) (drop (s.m * s.b) store)
begins s before directory bytes store fresh =
    subst (λ d. Alike (record { directory = d; bytes = bytes; store = store }) (starts s store) (drop (s.m * s.b) store))
    (sym (fresh.accepted refl))
    (begins_alike s (fresh_legal s before directory fresh) (drop (length (fresh_words s)) before) bytes store)

pub demand3 : Demand3
demand3 = demand3_from begins
