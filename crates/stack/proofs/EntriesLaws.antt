-- A cache is proper if its residents have different entries within 1 to N, blocks below M and legal counts, data is long enough and
-- the store is M blocks. Every work word keeps it so, whatever valid entry it picks.
use Rattle.std.specs.Prelude.{ℕ, zero, suc, ◌*◌, ◌≤◌, ◌<◌, ◌≡◌, refl, ◌≢◌, Bool, true, false, not, List, [], ◌∷◌, map, length, T}
use native.Mathlib.Omega.{arith}
use Rattle.std.proofs.Common.{sym, subst, ◌∙◌}
use Rattle.std.proofs.Math.Option.{some}
use Rattle.std.proofs.Math.ListN.{get_elem?}
use Rattle.std.proofs.lemmas.List.{length-map}
use Rattle.basics.specs.AllLaws.{all_map, all_image}
use Rattle.basics.specs.Basics.{All, without}
use Rattle.settings.specs.declared.Settings.{Settings}
use Rattle.settings.specs.NumbersLaws.{LegalSettings}
use Rattle.stack.specs.Recency.{Resident, Place, halve, asked, settled, marked, refuses}
use Rattle.stack.proofs.RecencyLaws.{below}
use Rattle.stack.specs.Entries.{Cache, entry_for, PickAt}
use Rattle.stack.proofs.PlaceLaws.{Placed, hits, enters, replaces, length_without, all_found, all_without, refusing}
use Rattle.stack.specs.Counts.{Legal}
use Rattle.stack.specs.declared.Marks.{Marks}

pub record Fit (s : Settings) (x : Resident ℕ) : Type 0 where
  pub least : 1 ≤ x.held
  pub most : x.held ≤ s.n
  pub stored : x.block < s.m
  pub legal : Legal x.count

-- different entries
abbrev pub Apart : List (Resident ℕ) → Type 0
Apart [] = Unit {0}
Apart (x ∷ l) = All (λ y. y.held ≢ x.held) l × Apart l

pub record Residents (s : Settings) (l : List (Resident ℕ)) : Type 0 where
  pub fit : All (Fit s) l
  pub apart : Apart l
  pub few : length l ≤ s.n

pub record Proper (c : Cache) : Type 0 where
  pub legal : LegalSettings c.stack.settings
  pub residents : Residents c.stack.settings c.stack.residents
  pub bytes : c.stack.settings.n * c.stack.settings.b ≤ length c.bytes
  pub store : length c.stack.store ≡ c.stack.settings.m * c.stack.settings.b

-- ---- entries that differ

pub Apart_without : (l : List (Resident ℕ)) (p : ℕ) → Apart l → Apart (without p l)
Apart_without [] zero a = tt
Apart_without [] (suc p) a = tt
Apart_without (x ∷ l) zero a = a.1
Apart_without (x ∷ l) (suc p) a = (all_without (λ y. y.held ≢ x.held) l p a.0, Apart_without l p a.1)

pub Apart_at : (l : List (Resident ℕ)) (p : ℕ) (x : Resident ℕ) → Apart l → get_elem? l p ≡ some x → All (λ y. y.held ≢ x.held) (without p l)
Apart_at [] p x a e = let z : ◌≡◌ {A = ℕ} 0 1 = cc in absurd (omega arith)
Apart_at (y ∷ l) zero x a e = let same : y ≡ x = cc in subst (λ z. All (λ w. w.held ≢ z.held) l) same a.0
Apart_at (y ∷ l) (suc p) x a e =
    let other : x.held ≢ y.held = all_found (λ w. w.held ≢ y.held) l p x a.0 e in
    ((λ h. other (sym h)), Apart_at l p x a.1 e)

-- the same entries in the same order
Apart_same : (f : Resident ℕ → Resident ℕ) → ((x : Resident ℕ) → (f x).held ≡ x.held) → (l : List (Resident ℕ)) → Apart l → Apart (map f l)
Apart_same f same [] a = tt
Apart_same f same (x ∷ l) a = (
  all_image (λ y. y.held ≢ (f x).held) f l (all_map (λ y. y.held ≢ x.held) (λ y. (f y).held ≢ (f x).held) l
      (λ y h e. h (sym (same y) ∙ e ∙ same x)) a.0),
  Apart_same f same l a.1,
)

pub Residents_same : (s : Settings) (f : Resident ℕ → Resident ℕ) → ((x : Resident ℕ) → (f x).held ≡ x.held)
    → ((x : Resident ℕ) → Fit s x → Fit s (f x))
    → (l : List (Resident ℕ)) → Residents s l → Residents s (map f l)
Residents_same s f same fits l r =
    record {
      fit = all_image (Fit s) f l (all_map (Fit s) (λ x. Fit s (f x)) l fits r.fit);
      apart = Apart_same f same l r.apart;
      few = rw (length-map l f) r.few;
    }

pub Residents_without : (s : Settings) (p : ℕ) (l : List (Resident ℕ)) → Residents s l → Residents s (without p l)
Residents_without s p l r =
    record { fit = all_without (Fit s) l p r.fit; apart = Apart_without l p r.apart; few = omega (arith, shorter p l, r.few) }
  where
    shorter : (p : ℕ) (l : List (Resident ℕ)) → length (without p l) ≤ length l
    shorter zero [] = omega arith
    shorter (suc p) [] = omega arith
    shorter zero (x ∷ l) = omega arith
    shorter (suc p) (x ∷ l) = omega (arith, shorter p l)

-- ---- the entry of the block asked for

pub record Entry (s : Settings) (e : ℕ) (q : Place ℕ) : Type 0 where
  pub least : 1 ≤ e
  pub most : e ≤ s.n
  pub free : All (λ y. y.held ≢ e) (below q)

module _ (s : Settings) (l : List (Resident ℕ)) (r : Residents s l) (pick : ℕ) where
  pub entry_placed : (q : Place ℕ) → Placed s l q → PickAt s.n pick q → T (not (refuses q)) → Entry s (entry_for pick q) q
  unfolding entry_for below refuses
  entry_placed q (hits p x n e ok up) t here =
      let fit = all_found (Fit s) l p x r.fit e in record { least = fit.least; most = fit.most; free = Apart_at l p x r.apart e }
  entry_placed q (enters h) t here = record { least = t.least; most = t.most; free = t.free }
  entry_placed q (refusing full all) t here = absurd here
  entry_placed q (replaces v x e full u c) t here =
      let fit = all_found (Fit s) l v x r.fit e in record { least = fit.least; most = fit.most; free = Apart_at l v x r.apart e }

  -- the residents with it at the head
  pub asked_placed : (b : ℕ) (w : Bool) → b < s.m → (q : Place ℕ) → Placed s l q → PickAt s.n pick q → Residents s (asked b w (entry_for pick q) q)
  unfolding asked entry_for below
  asked_placed b w h q (hits p x n e ok up) t =
      let fit = all_found (Fit s) l p x r.fit e in
      record {
        fit = (record { least = fit.least; most = fit.most; stored = fit.stored; legal = ok }, all_without (Fit s) l p r.fit);
        apart = (Apart_at l p x r.apart e, Apart_without l p r.apart);
        few = let g = length_without l p e in omega (arith, r.few);
      }
  asked_placed b w h q (enters g) t =
      record {
        fit = (record { least = t.least; most = t.most; stored = h; legal = (omega arith, omega arith) }, r.fit);
        apart = (t.free, r.apart);
        few = g;
      }
  asked_placed b w h q (refusing full all) t = r
  asked_placed b w h q (replaces v x e full u c) t =
      let fit = all_found (Fit s) l v x r.fit e in
      record {
        fit = (record { least = fit.least; most = fit.most; stored = h; legal = (omega arith, omega arith) }, all_without (Fit s) l v r.fit);
        apart = (Apart_at l v x r.apart e, Apart_without l v r.apart);
        few = let g = length_without l v e in omega (arith, r.few);
      }

-- whatever becomes of marks
pub marked_residents : (s : Settings) (change : Resident ℕ → Marks) (l : List (Resident ℕ)) → Residents s l
    → Residents s (map (λ x. marked (change x) x) l)
marked_residents s change =
    Residents_same s (λ x. marked (change x) x) (λ x. refl) (λ x t. record { least = t.least; most = t.most; stored = t.stored; legal = t.legal })

halve_fit : (s : Settings) (x : Resident ℕ) → Fit s x → Fit s (halve x)
unfolding halve
halve_fit s x f =
    record { least = f.least; most = f.most; stored = f.stored; legal = (let h = f.legal in omega arith, let h = f.legal in omega arith) }

pub settled_residents : (s : Settings) (t : Bool) (l : List (Resident ℕ)) → Residents s l → Residents s (settled t l)
unfolding settled halve
settled_residents s true l r = Residents_same s halve (λ x. refl) (halve_fit s) l r
settled_residents s false l r = r
