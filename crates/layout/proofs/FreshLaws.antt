-- The words of a fresh directory are sound, and stand for an empty stack, whatever follows them.
use Rattle.std.specs.Prelude.{ℕ, ◌+◌, ◌-◌, ◌*◌, ◌/◌, ◌^◌, ◌≤◌, ◌<◌, ◌≡◌, Bool, true, false, take, leb, eqb}
use native.Mathlib.Omega.{arith}
use Rattle.std.proofs.Math.Path.{sym, ap, subst}
use Rattle.std.proofs.Common.{◌∙◌, take_at}
use mathlib.Core.List.{List, [], ◌++◌, map}
use Rattle.std.proofs.Math.ListN.{length}
use Rattle.std.proofs.Math.Dec.{T}
use Rattle.std.proofs.Math.Facts.{yes_and, yes_eqb, yes_leb}
use Rattle.basics.specs.Basics.{when◌then◌else◌, within}
use Rattle.basics.specs.ListLaws.{yes_every, every_append, is_same, length_counting, all_counting, distinct_counting}
use Rattle.basics.specs.Lists.{every, all, same, distinct, same_members, those, counting}
use Rattle.words.specs.Words.{val}
use Rattle.settings.specs.declared.Settings.{Settings}
use Rattle.settings.specs.Numbers.{settings_number}
use Rattle.settings.specs.NumbersLaws.{LegalSettings, legal_settings}
use Rattle.settings.specs.Buckets.{buckets, directory_length}
use Rattle.stack.specs.Stack.{empty}
use Rattle.layout.specs.Addresses.{BLOCK, COUNT, SECTION, MODIFIED, TO-HEAD, CHAIN-TO-HEAD, CHAIN-TO-TAIL, NEXT-SYNONYM, chain_head, chain_tail, bucket_word}
use Rattle.layout.specs.Layout.{kinds, fresh_words}
use Rattle.layout.specs.Sound.{settings_in, field, order, unused_entries, walk, stack_tests, resident_tests, chain_right, bucket_right, chain_tests, kinds_right, sound, view}
use Rattle.layout.proofs.FreshKindLaws.{length_fresh, kinds_fresh}
use Rattle.layout.proofs.FreshWordLaws.{settings_fresh, totals_fresh, link_fresh, zeros_fresh, order_fresh, walk_none, unused_fresh}

module _ (s : Settings) (legal : LegalSettings s) (rest : List ℕ) where
  abbrev ws : List ℕ
  ws = fresh_words s ++ rest

  abbrev N_fresh : (settings_in ws).n ≡ s.n
  N_fresh = ap (λ (x : Settings). x.n) (settings_fresh s legal rest)

  entries : order ws ++ unused_entries ws ≡ counting 1 s.n
  entries = ap (λ l. l ++ unused_entries ws) (order_fresh s legal rest) ∙ unused_fresh s legal rest

  -- ---- the stack

  entries_within : T (all (within 1 (settings_in ws).n) (order ws ++ unused_entries ws))
  entries_within =
      subst (λ l. T (all (within 1 (settings_in ws).n) l)) (sym entries)
      (subst (λ n. T (all (within 1 n) (counting 1 s.n))) (sym N_fresh)
      (all_counting (within 1 s.n) 1 s.n (λ i g g'. yes_and (leb 1 i) (leb i s.n) (yes_leb g) (yes_leb {a = i} {b = s.n} (omega arith)))))

  zero_values : ℕ → Bool
  zero_values e =
      eqb (field ws BLOCK e + field ws COUNT e + field ws SECTION e + field ws MODIFIED e + field ws TO-HEAD e + field ws CHAIN-TO-HEAD e + field ws
      CHAIN-TO-TAIL e + field ws NEXT-SYNONYM e) 0

  unused_zero : T (all zero_values (unused_entries ws))
  unfolding zero_values
  unused_zero =
      subst (λ l. T (all zero_values l)) (sym (unused_fresh s legal rest))
      (all_counting zero_values 1 s.n (λ e g g'. let z = zeros_fresh s legal rest e (s.n - e) g (omega arith) in
      yes_eqb {a = field ws BLOCK e + field ws COUNT e + field ws SECTION e + field ws MODIFIED e + field ws TO-HEAD e + field ws CHAIN-TO-HEAD
      e + field ws CHAIN-TO-TAIL e + field ws NEXT-SYNONYM e} {b = 0} (omega arith)))

  stack_tests_lem : T (every (stack_tests ws))
  unfolding stack_tests fresh_words zero_values
  stack_tests_lem =
      let long : length (order ws ++ unused_entries ws) ≡ (settings_in ws).n = ap length entries ∙ length_counting 1 s.n ∙ sym N_fresh in
      yes_every (stack_tests ws) (
        tt,
        (
          tt,
          (
            yes_eqb long,
            (
              entries_within,
              (subst (λ l. T (distinct l)) (sym entries) (distinct_counting 1 s.n), (unused_zero, tt)),
            ),
          ),
        ),
      )

  -- ---- no residents

  resident_tests_lem : T (every (resident_tests ws))
  unfolding resident_tests fresh_words
  resident_tests_lem =
      yes_every (resident_tests ws) (
        tt,
        (
          tt,
          (
            tt,
            (
              tt,
              (
                tt,
                (
                  tt,
                  (tt, (tt, (tt, (yes_leb {a = 0} {b = (settings_in ws).amax * (settings_in ws).n} (omega arith), tt)))),
                ),
              ),
            ),
          ),
        ),
      )

  -- ---- chains and buckets

  abbrev Cmax_fresh : (settings_in ws).cmax ≡ s.cmax
  Cmax_fresh = ap (λ (x : Settings). x.cmax) (settings_fresh s legal rest)

  chain_fresh : (i : ℕ) → 1 ≤ i → i < 1 + (settings_in ws).cmax → T (chain_right ws i)
  unfolding chain_right same those fresh_words
  chain_fresh i g h =
      let few : i < 1 + s.cmax = subst (λ n. i < 1 + n) Cmax_fresh h in
      let head_word : chain_head i ≡ 24 + 2 * (i - 1) = omega arith in
      let tail-word : chain_tail i ≡ 24 + (2 * (i - 1) + 1) = omega arith in
      let head : val ws (chain_head i) ≡ 0 = ap (val ws) head_word ∙ link_fresh s legal rest (2 * (i - 1)) (omega arith) in
      let tail : val ws (chain_tail i) ≡ 0 = ap (val ws) tail-word ∙ link_fresh s legal rest (2 * (i - 1) + 1) (omega arith) in
      yes_and (same (walk ws CHAIN-TO-TAIL (val ws (chain_head i))) []) (same (walk ws CHAIN-TO-HEAD (val ws (chain_tail i))) [])
      (subst (λ l. T (same l [])) (sym (walk_none s legal rest CHAIN-TO-TAIL (val ws (chain_head i)) head)) tt)
      (subst (λ l. T (same l [])) (sym (walk_none s legal rest CHAIN-TO-HEAD (val ws (chain_tail i)) tail)) tt)

  bucket_fresh : (b : ℕ) → 0 ≤ b → b < 0 + buckets (settings_in ws).n → T (bucket_right ws b)
  unfolding bucket_right same_members those fresh_words
  bucket_fresh b g h =
      let few : b < 0 + buckets s.n = subst (λ n. b < 0 + buckets n) N_fresh h in
      let there : bucket_word (settings_in ws) b ≡ 24 + (2 * s.cmax + b) = ap (λ n. 24 + 2 * n + b) Cmax_fresh ∙ regroup s.cmax b in
      let none : val ws (bucket_word (settings_in ws) b) ≡ 0 = ap (val ws) there ∙ link_fresh s legal rest (2 * s.cmax + b) (omega arith) in
      subst (λ l. T (same_members l [])) (sym (walk_none s legal rest NEXT-SYNONYM (val ws (bucket_word (settings_in ws) b)) none)) tt
    where
      regroup : (c b : ℕ) → 24 + 2 * c + b ≡ 24 + (2 * c + b)
      regroup c b = omega arith

  chain_tests_lem : T (every (chain_tests ws))
  unfolding chain_tests fresh_words
  chain_tests_lem =
      yes_every (chain_tests ws) (
        all_counting (chain_right ws) 1 (settings_in ws).cmax chain_fresh,
        (tt, (all_counting (bucket_right ws) 0 (buckets (settings_in ws).n) bucket_fresh, (tt, (tt, tt)))),
      )

  kinds_tests : T (kinds_right ws)
  unfolding kinds_right
  kinds_tests =
      let e = settings_fresh s legal rest in
      is_same (map (λ w. w / 2 ^ 28) (take (directory_length (settings_in ws)) ws)) (kinds (settings_in ws))
      (ap (λ (x : Settings). map (λ w. w / 2 ^ 28) (take (directory_length x) ws)) e
      ∙ ap (map (λ w. w / 2 ^ 28)) (take_at (fresh_words s) rest (directory_length s) (length_fresh s))
      ∙ kinds_fresh s legal
      ∙ ap kinds (sym e))

-- ---- the whole

module _ (s : Settings) (ok : settings_number s ≡ 0) (rest : List ℕ) where
  abbrev legal : LegalSettings s
  legal = legal_settings s ok

  gate : (a b c : Bool) → T a → T b → T c → T (when a then (when b then c else false) else false)
  gate true true true t u v = tt
  gate true true false t u v = v
  gate true false c t u v = u
  gate false b c t u v = t

  pub sound_fresh : T (sound (fresh_words s ++ rest))
  unfolding sound
  sound_fresh =
      gate (eqb (settings_number (settings_in (fresh_words s ++ rest))) 0) (kinds_right (fresh_words s ++ rest)) _
      (yes_eqb (ap settings_number (settings_fresh s legal rest) ∙ ok))
      (kinds_tests s legal rest)
      (every_append (stack_tests (fresh_words s ++ rest)) (resident_tests (fresh_words s ++ rest) ++ chain_tests (fresh_words s ++ rest))
      (stack_tests_lem s legal rest)
      (every_append (resident_tests (fresh_words s ++ rest)) (chain_tests (fresh_words s ++ rest)) (resident_tests_lem s legal rest)
      (chain_tests_lem s legal rest)))

  pub view_fresh : (store : List ℕ) → view (fresh_words s ++ rest) store ≡ empty s store
  unfolding view
  view_fresh store = rw (settings_fresh s legal rest, totals_fresh s legal rest, order_fresh s legal rest)
