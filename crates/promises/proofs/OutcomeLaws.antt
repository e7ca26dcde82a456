-- What a promise fixes: two outcomes of one fresh are equal; two outcomes of one accepted batch, with the same entries picked, are equal
-- but for the directory's orders that are left open.
use Rattle.std.specs.Prelude.{ℕ, zero, suc, ◌*◌, ◌≡◌, refl, List, ◌++◌, take, drop, T}
use Rattle.std.proofs.Common.{arith, sym, ap₂, subst₂, ◌∙◌, take-append-drop}
use Rattle.std.proofs.Math.Path.{ap}
use Rattle.settings.specs.declared.Settings.{Settings}
use Rattle.settings.specs.Buckets.{directory_length}
use Rattle.stack.specs.Stack.{Work}
use Rattle.stack.specs.Batch.{batch_number}
use Rattle.layout.specs.Sound.{settings_in, totals_in, residents_in, sound, view}
use Rattle.promises.specs.Promises.{Fresh, Slices, behind, call_of, number_of, Accepted}
use Rattle.promises.proofs.SliceLaws.{number_zero, after_settings}

-- ---- fresh

pub fresh_same : (s : Settings) (before : List ℕ) (n : ℕ) (a b : List ℕ) → Fresh s before n a → Fresh s before n b → a ≡ b
fresh_same s before zero a b p q = p.accepted refl ∙ sym (q.accepted refl)
fresh_same s before (suc n) a b p q = p.declined (omega arith) ∙ sym (q.declined (omega arith))

-- ---- an accepted batch

-- two lists with the same front and the same rest
joined : (n : ℕ) (x y : List ℕ) → take n x ≡ take n y → drop n x ≡ drop n y → x ≡ y
joined n x y f g = sym (take-append-drop n x) ∙ ap₂ (λ u v. u ++ v) f g ∙ take-append-drop n y

module _ (words incoming : List ℕ) (before a b : Slices) (picked : List (Work × ℕ))
    (number : number_of words incoming before ≡ 0)
    (p : Accepted words incoming before a picked) (q : Accepted words incoming before b picked) where
  abbrev s : Settings
  s = settings_in before.directory

  is_sound : T (sound before.directory)
  is_sound = (number_zero words incoming before number).0

  allowed : batch_number s (totals_in before.directory) (call_of words incoming before) ≡ 0
  allowed = (number_zero words incoming before number).1

  of_a : settings_in a.directory ≡ s
  of_a = after_settings words incoming before is_sound allowed a picked p

  of_b : settings_in b.directory ≡ s
  of_b = after_settings words incoming before is_sound allowed b picked q

  same : behind a ≡ behind b
  same = p.cache ∙ sym q.cache

  -- of the directory

  pub settings_same : settings_in a.directory ≡ settings_in b.directory
  settings_same = of_a ∙ sym of_b

  pub totals_same : totals_in a.directory ≡ totals_in b.directory
  unfolding view
  totals_same = ap (λ c. c.stack.totals) same

  pub residents_same : residents_in a.directory ≡ residents_in b.directory
  unfolding view
  residents_same = ap (λ c. c.stack.residents) same

  abbrev past : Slices → List ℕ
  past t = drop (directory_length (settings_in b.directory)) t.directory

  pub past_same : past a ≡ past b
  past_same = rw of_b (p.words_past ∙ sym q.words_past)

  -- of the other slices

  pub bytes_same : a.bytes ≡ b.bytes
  bytes_same =
      joined (s.n * s.b) a.bytes b.bytes
      (subst₂ (λ x y. take (x.n * x.b) a.bytes ≡ take (y.n * y.b) b.bytes) of_a of_b (ap (λ c. c.bytes) same))
      (p.bytes_past ∙ sym q.bytes_past)

  pub store_same : a.store ≡ b.store
  unfolding view
  store_same = ap (λ c. c.stack.store) same

  pub answers_same : a.answers ≡ b.answers
  answers_same = p.answers ∙ sym q.answers

  pub outgoing_same : a.outgoing ≡ b.outgoing
  outgoing_same = p.outgoing ∙ sym q.outgoing
