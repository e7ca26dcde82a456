-- The table of a directory: what it adds up to, and that it is the plain stack's.
use Rattle.std.specs.Prelude.{ℕ, ◌+◌, ◌*◌, ◌≡◌, Bool, true, false, length, take, T}
use Rattle.std.proofs.Common.{arith, ◌∙◌}
use Rattle.std.proofs.Math.Path.{refl, sym, ap}
use mathlib.Core.List.{List, [], ◌∷◌, ◌++◌}
use Rattle.std.proofs.Math.ListN.{length-map}
use Rattle.std.proofs.Math.Dec.{eqb}
use Rattle.std.proofs.Math.Facts.{eqb_yes}
use Rattle.basics.specs.Basics.{All, when◌then◌else◌, bit, total}
use Rattle.basics.specs.ListLaws.{all_yes, yes_all}
use Rattle.basics.specs.Lists.{all, counting}
use Rattle.basics.specs.TestLaws.{if_yes}
use Rattle.basics.specs.TotalLaws.{sum, sum_join, sum_map, sum_any_order}
use Rattle.stack.proofs.OccupancyLaws.{one_class, class_found, residents_sum, modified_sum, table_hold}
use Rattle.stack.specs.Entries.{entry_bytes}
use Rattle.stack.specs.Counts.{Legal}
use Rattle.stack.specs.Stack.{Plain, modified_count}
use Rattle.words.specs.Words.{val}
use Rattle.layout.specs.Addresses.{RESIDENTS, BLOCK, COUNT, SECTION, MODIFIED, TO-HEAD, CHAIN-TO-HEAD, CHAIN-TO-TAIL, NEXT-SYNONYM}
use Rattle.layout.specs.Sound.{settings_in, field, order, unused_entries, stack_tests, sound, resident_at, residents_in, view}
use Rattle.layout.proofs.SoundLaws.{stack_passes, sound_kept}
use Rattle.promises.specs.Demand3.{Memory, Alike}
use Rattle.promises.proofs.FollowLaws.{follows_alike}
use Rattle.promises.proofs.Demand3Laws.{demand3}
use Rattle.promises.specs.Occupancy.{occupancy_number, no_figures, table_in, OneClass, modified_in, AddsUp, TableAlike, PlainTable}
use Rattle.stack.specs.Occupancy.{column, Table, table}

pub one_class_each : OneClass
one_class_each count low high = (one_class count low high, class_found count (low, high))

-- eight figures in each column
pub eight : (words : List ℕ) → (length (table_in words).residents ≡ 8) × (length (table_in words).modified ≡ 8)
unfolding table_in column
eight words = go (sound words)
  where
    shown : Bool → Table
    shown passes = when passes then table (residents_in words) else no_figures

    go : (passes : Bool) → (length (shown passes).residents ≡ 8) × (length (shown passes).modified ≡ 8)
    go true = (refl, refl)
    go false = (refl, refl)

-- ---- of sound words

module _ (words : List ℕ) (h : T (sound words)) where
  pub number_sound : occupancy_number words ≡ 0
  unfolding occupancy_number
  number_sound = if_yes (sound words) 0 6 h

  pub table_sound : table_in words ≡ table (residents_in words)
  unfolding table_in
  table_sound = if_yes (sound words) (table (residents_in words)) _ h

-- ---- the columns add up

module _ (words : List ℕ) (h : T (sound words)) where
  legal : All (λ x. Legal x.count) (residents_in words)
  unfolding view
  legal = (sound_kept words h []).legal

  abbrev mark : ℕ → ℕ
  mark e = bit (resident_at words e).marks.modified

  -- what is 0 in an unused entry
  abbrev values : ℕ → ℕ
  values e =
      let f : ℕ → ℕ = λ j. field words j e in
      f BLOCK + f COUNT + f SECTION + f MODIFIED + f TO-HEAD + f CHAIN-TO-HEAD + f CHAIN-TO-TAIL + f NEXT-SYNONYM

  unmarked : (es : List ℕ) → T (all (λ e. eqb (values e) 0) es) → sum mark es ≡ 0
  unfolding total resident_at
  unmarked [] t = refl
  unmarked (e ∷ es) t =
      let q = all_yes (λ e. eqb (values e) 0) (e ∷ es) t in
      let z : values e ≡ 0 = eqb_yes q.0 in
      let none : field words MODIFIED e ≡ 0 = omega (arith, z) in
      rw none (omega (arith, unmarked es (yes_all (λ e. eqb (values e) 0) es q.1)))

  -- every entry is a resident's or unused
  entry_marks : sum mark (counting 1 (settings_in words).n) ≡ sum mark (order words)
  unfolding stack_tests
  entry_marks =
      let s = stack_passes words h in
      sum_any_order (settings_in words).n (order words ++ unused_entries words) s.1.1.1.0 s.1.1.1.1.0 (eqb_yes s.1.1.0) mark
      ∙ sum_join mark (order words) (unused_entries words)
      ∙ omega (arith, unmarked (unused_entries words) s.1.1.1.1.1.0)

  all_marks : modified_in words ≡ modified_count (residents_in words)
  unfolding modified_count
  all_marks =
      sum_map (λ x. bit x.marks.modified) (resident_at words) (counting 1 (settings_in words).n)
      ∙ entry_marks ∙ sym (sum_map (λ x. bit x.marks.modified) (resident_at words) (order words))

  pub residents_add_up : total (table_in words).residents ≡ val words RESIDENTS
  unfolding stack_tests
  residents_add_up =
      ap (λ t. total t.residents) (table_sound words h)
      ∙ residents_sum (residents_in words) legal
      ∙ length-map (order words) (resident_at words)
      ∙ eqb_yes (stack_passes words h).1.0

  pub modified_add_up : total (table_in words).modified ≡ modified_in words
  modified_add_up = ap (λ t. total t.modified) (table_sound words h) ∙ modified_sum (residents_in words) legal ∙ sym all_marks

pub adds_up : AddsUp
adds_up words h = (residents_add_up words h, modified_add_up words h)

-- ---- the plain stack's

alike_table : {m : Memory} {k : Plain} {rest : List ℕ} → Alike m k rest → TableAlike m k
unfolding view
alike_table {m = m} alike =
    let words = m.directory in
    let s = settings_in words in (
      number_sound words alike.is_sound,
      table_sound words alike.is_sound
          ∙ sym (table_hold (entry_bytes s.b (take (s.n * s.b) m.bytes)) (residents_in words))
          ∙ ap (λ (x : Plain). table x.residents) alike.same,
    )

pub plain_table : PlainTable
plain_table s before directory bytes store cs ts fresh linked =
    alike_table (follows_alike (demand3 s before directory bytes store cs ts fresh linked))
