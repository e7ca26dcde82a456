-- A hit and a purge over the words of a directory, with the residents and totals of the stack after them. Assumes nothing.
use Rattle.std.specs.Prelude.{Some}
use Rattle.std.specs.Prelude.{ℕ, suc, ◌+◌, ◌*◌, ◌≤◌, ◌<◌, ◌≡◌, refl, Bool, true, false, List, ◌∷◌, ◌++◌}
use Rattle.std.proofs.Common.{◌∙◌, sym, ap, subst}
use Rattle.settings.specs.declared.Settings.{Settings}
use Rattle.stack.specs.Recency.{Place, place, asked, removed}
use Rattle.layout.specs.Addresses.{SUM, BLOCK}
use Rattle.linkage.specs.Fields.{Shape, Fields, base, in_header}
use Rattle.word_ops.specs.Hit.{hit}
use Rattle.word_ops.specs.Purge.{purged}
use Rattle.word_ops.specs.Buckets.{found}
use Rattle.word_ops.specs.Totals.{access_counted}
use Rattle.operations.specs.Directory.{Directory}
use Rattle.operations.specs.FieldOps.{hitD, purgeD}
use Rattle.operations.specs.Hit.{hit_sound}
use Rattle.operations.specs.Purge.{prev_e}
use Rattle.operations.specs.PurgeSound.{purge_sound}
use Rattle.operations.specs.Miss.{accessD, Countable, access_sound, access_marks}
use Rattle.operations.specs.Residents.{Of, residents_of}
use Rattle.operations.specs.Places.{place_hit}
use Rattle.operations.specs.Lookup.{Holder, Told, find_is}
use Rattle.operations.specs.Mark.{marked, marked_words, mark_sound}
use Rattle.operations.specs.After.{hit_residents, purge_residents}
use Rattle.operations.specs.Counted.{totals_of, totals_after, after_found, access_totals_lem}
use Rattle.operations.specs.Stands.{Given, Stands}

-- a hit: counted, the entry to the front, and marked if it was written
abbrev pub hit_for : Shape → List ℕ → ℕ → Bool → List ℕ
hit_for s w e written = marked_words written s (hit (access_counted written w) (base s) s.cmax e) e

module _ (t : Settings) (s : Shape) (of : Of t s) (w : List ℕ) (D : Fields) (unused : List ℕ) (some : Countable D)
    (small : D (in_header SUM) 0 < 268435455) (given : Given t D) where
  abbrev After : List ℕ → ℕ → ℕ → Bool → Type 0
  After residents block e written =
      let q = place t block (residents_of D residents) in
      Stands t s (hit_for s w e written) (asked block written e q) (totals_after written q (totals_of D))

  hit_here : (above : List ℕ) (e : ℕ) (below : List ℕ) (written : Bool) → Directory s w D (above ++ (e ∷ below)) unused
      → After (above ++ (e ∷ below)) (D BLOCK e) e written
  hit_here above e below true g =
      let E : Fields = accessD true D in
      let h = access_sound s w D (above ++ (e ∷ below)) unused some g true in
      let k = hit_sound s (access_counted true w) E above e below unused small h in
      record {
        fields = marked true (hitD s E e) e;
        order = e ∷ (above ++ below);
        unused = unused;
        directory =
            mark_sound s (hit (access_counted true w) (base s) s.cmax e) (hitD s E e) e (above ++ below) unused true
            (access_marks s w D (above ++ (e ∷ below)) unused some g true) k;
        seen = hit_residents t s E above e below unused of h.linked true;
        counted =
            access_totals_lem D true ∙ after_found true _ _ (totals_of D)
            ∙ sym (ap (λ (q : Place ℕ). totals_after true q (totals_of D)) (place_hit s D above e below unused g.linked t));
        given = record { average = given.average; bytes = given.bytes };
      }
  hit_here above e below false g =
      let E : Fields = accessD false D in
      let h = access_sound s w D (above ++ (e ∷ below)) unused some g false in
      let k = hit_sound s (access_counted false w) E above e below unused small h in
      record {
        fields = marked false (hitD s E e) e;
        order = e ∷ (above ++ below);
        unused = unused;
        directory =
            mark_sound s (hit (access_counted false w) (base s) s.cmax e) (hitD s E e) e (above ++ below) unused false
            (access_marks s w D (above ++ (e ∷ below)) unused some g false) k;
        seen = hit_residents t s E above e below unused of h.linked false;
        counted =
            access_totals_lem D false ∙ after_found false _ _ (totals_of D)
            ∙ sym (ap (λ (q : Place ℕ). totals_after false q (totals_of D)) (place_hit s D above e below unused g.linked t));
        given = record { average = given.average; bytes = given.bytes };
      }

  hit_at_lem : (residents above : List ℕ) (e : ℕ) (below : List ℕ) (block : ℕ) (written : Bool) → residents ≡ above ++ (e ∷ below) → D BLOCK e ≡ block
      → Directory s w D residents unused → After residents block e written
  hit_at_lem residents above e below block written q c g = rw (q, ← c) (hit_here above e below written (rw q at g))

  -- A HIT, of a block that the code's lookup found
  pub hit_asked : (residents : List ℕ) (block links e : ℕ) (written : Bool) → Directory s w D residents unused → s.N ≤ links
      → found w (base s) links (24 + 2 * s.cmax + s.hash block) block ≡ Some e
      → let q = place t block (residents_of D residents) in Stands t s (hit_for s w e written) (asked block written e q)
      (totals_after written q (totals_of D))
  hit_asked residents block links e written g budget here =
      let k : Holder D block residents e = subst (Told s D block residents) here (find_is s w D residents unused block links g budget) in
      hit_at_lem residents k.before e k.behind block written k.whole k.block g

-- ---- a purge

module _ (t : Settings) (s : Shape) (w : List ℕ) (D : Fields) (unused : List ℕ) (given : Given t D) where
  purge_here : (above : List ℕ) (e : ℕ) (below : List ℕ) → Directory s w D (above ++ (e ∷ below)) unused
      → Stands t s (purged w (base s) s.cmax (suc s.N) (24 + 2 * s.cmax + s.hash (D BLOCK e)) e)
      (removed (D BLOCK e) (residents_of D (above ++ (e ∷ below)))) (totals_of D)
  purge_here above e below g =
      let q : ℕ = prev_e s D above e below unused g.linked in
      record {
        fields = purgeD s D e q;
        order = above ++ below;
        unused = e ∷ unused;
        directory = purge_sound s w D above e below unused g;
        seen = purge_residents s D above e below unused g.linked q;
        counted = refl;
        given = record { average = given.average; bytes = given.bytes };
      }

  purge_at : (residents above : List ℕ) (e : ℕ) (below : List ℕ) (block : ℕ) → residents ≡ above ++ (e ∷ below) → D BLOCK e ≡ block
      → Directory s w D residents unused → Stands t s (purged w (base s) s.cmax (suc s.N) (24 + 2 * s.cmax + s.hash block) e)
      (removed block (residents_of D residents)) (totals_of D)
  purge_at residents above e below block q c g = rw (q, ← c) (purge_here above e below (rw q at g))

  -- A PURGE of a block that the code's lookup found
  pub purge_step : (residents : List ℕ) (block links e : ℕ) → Directory s w D residents unused → s.N ≤ links
      → found w (base s) links (24 + 2 * s.cmax + s.hash block) block ≡ Some e
      → Stands t s (purged w (base s) s.cmax (suc s.N) (24 + 2 * s.cmax + s.hash block) e) (removed block (residents_of D residents))
      (totals_of D)
  purge_step residents block links e g budget here =
      let k : Holder D block residents e = subst (Told s D block residents) here (find_is s w D residents unused block links g budget) in
      purge_at residents k.before e k.behind block k.whole k.block g
