-- What stands in the words of a fresh directory, whatever follows them.
use Prim.Native.Nat.{ℕ, zero, suc, ◌+◌, ◌-◌, ◌*◌, ◌%◌, ◌^◌, ◌≤◌, ◌<◌}
use native.Mathlib.Omega.{arith}
use Rattle.std.specs.Prelude.{◌≡◌, length, replicate, eqb}
use Rattle.std.proofs.Math.Path.{refl, ap}
use Rattle.std.proofs.Common.{sym, ap₂, ◌∙◌, lit<}
use mathlib.Core.List.{List, [], ◌∷◌, ◌++◌, append_assoc}
use Rattle.std.proofs.Math.ListN.{get_or, get_or-append, get_or-replicate}
use Rattle.std.proofs.lemmas.List.{length-replicate}
use Rattle.std.proofs.Math.Seq.{get_or-append-add}
use Rattle.std.proofs.Math.Facts.{no_eqb}
use Rattle.std.proofs.Math.Numerals.{add-one}
use Rattle.std.proofs.Math.Dec.{eqb-suc-zero}
use Rattle.basics.specs.TestLaws.{if_no}
use Rattle.basics.specs.Basics.{when◌then◌else◌}
use Rattle.basics.specs.Lists.{counting}
use Rattle.words.specs.Words.{number, link, val}
use Rattle.settings.specs.declared.Settings.{Settings}
use Rattle.settings.specs.NumbersLaws.{LegalSettings}
use Rattle.settings.specs.Buckets.{buckets}
use Rattle.layout.specs.Addresses.{BLOCK, COUNT, SECTION, MODIFIED, TO-HEAD, TO-TAIL, CHAIN-TO-HEAD, CHAIN-TO-TAIL, NEXT-SYNONYM, entry_word}
use Rattle.layout.specs.Layout.{unused_entry, unused_from, fresh_header, fresh_words}
use Rattle.layout.specs.Sound.{settings_in, totals_in, field, order, unused_entries, along, walk}

value_number : (v : ℕ) → v < 2 ^ 28 → number v % 2 ^ 28 ≡ v
value_number v h = omega arith

value_link : (v : ℕ) → v < 2 ^ 28 → link v % 2 ^ 28 ≡ v
value_link v h = omega arith

-- the link out of an unused entry that has m after it
abbrev pub next_of : ℕ → ℕ → ℕ
next_of e m = when eqb m 0 then 0 else e + 1

pub length_unused : (e n : ℕ) → length (unused_from e n) ≡ 9 * n
unfolding unused_from
length_unused e zero = refl
length_unused e (suc n) = let h = length_unused (e + 1) n in omega arith

-- the first of several unused entries
unused_first_lem : (e n : ℕ) → unused_from e (suc n) ≡ unused_entry (next_of e n) ++ unused_from (e + 1) n
unfolding unused_from
unused_first_lem e n = refl

-- word j of the i-th of n unused entries
pub getD_unused : (e n i j m : ℕ) (rest : List ℕ) → i + suc m ≡ n → j < 9
    → get_or (unused_from e n ++ rest) (9 * i + j) 0 ≡ get_or (unused_entry (next_of (e + i) m)) j 0
getD_unused e zero i j m rest h g = absurd (omega arith)
getD_unused e (suc n) zero j m rest h g =
    let k : 9 * 0 + j ≡ j = omega arith in
    let a : e ≡ e + 0 = omega arith in
    let b : n ≡ m = omega arith in
    ap₂ (λ l k. get_or (l ++ rest) k 0) (unused_first_lem e n) k
    ∙ get_or-append (unused_entry (next_of e n)) (unused_from (e + 1) n ++ rest) 0 j g
    ∙ ap₂ (λ a b. get_or (unused_entry (next_of a b)) j 0) a b
getD_unused e (suc n) (suc i) j m rest h g =
    let k : 9 * suc i + j ≡ 9 + (9 * i + j) = omega arith in
    let a : e + 1 + i ≡ e + suc i = omega arith in
    ap₂ (λ l k. get_or (l ++ rest) k 0) (unused_first_lem e n) k
    ∙ get_or-append-add (unused_entry (next_of e n)) (unused_from (e + 1) n ++ rest) (9 * i + j) 0
    ∙ getD_unused (e + 1) n i j m rest (omega arith) g
    ∙ ap (λ a. get_or (unused_entry (next_of a m)) j 0) a

module _ (s : Settings) (legal : LegalSettings s) (rest : List ℕ) where
  abbrev ws : List ℕ
  ws = fresh_words s ++ rest

  pub settings_fresh : settings_in ws ≡ s
  unfolding settings_in fresh_words
  settings_fresh =
      let l = legal in
      rw (
        value_number s.n (omega arith),
        value_number s.nnew (omega arith),
        value_number s.nold (omega arith),
        value_number s.cmax
            (omega arith),
        value_number s.amax (omega arith),
        value_number s.b (omega arith),
        value_number s.m (omega arith),
      )

  pub totals_fresh : totals_in ws ≡ record { reads = 0; writes = 0; ins = 0; outs = 0 }
  unfolding totals_in fresh_words
  totals_fresh = refl

  -- ---- chains and buckets

  abbrev pub links : ℕ
  links = 2 * s.cmax + buckets s.n

  -- past the header
  body : List ℕ
  body = replicate links (link 0) ++ (unused_from 1 s.n ++ rest)

  past_header : (i : ℕ) → get_or ws (24 + i) 0 ≡ get_or body i 0
  unfolding fresh_words body
  past_header i =
      ap (λ l. get_or l (24 + i) 0) (append_assoc (fresh_header s) (replicate links (link 0) ++ unused_from 1 s.n) rest)
      ∙ get_or-append-add (fresh_header s) (replicate links (link 0) ++ unused_from 1 s.n ++ rest) i 0
      ∙ ap (λ l. get_or l i 0) (append_assoc (replicate links (link 0)) (unused_from 1 s.n) rest)

  pub link_fresh : (i : ℕ) → i < links → val ws (24 + i) ≡ 0
  unfolding body val
  link_fresh i h =
      ap (λ v. v % 2 ^ 28)
      (past_header i
      ∙ get_or-append (replicate links (link 0)) (unused_from 1 s.n ++ rest) 0 i (rw (length-replicate links (link 0)) h)
      ∙ get_or-replicate links i (link 0) 0 h)

  -- ---- entries

  pub field_fresh : (j e m : ℕ) → j < 9 → 1 ≤ e → e + m ≡ s.n → field ws j e ≡ get_or (unused_entry (next_of e m)) j 0 % 2 ^ 28
  unfolding field body
  field_fresh j e m h g k =
      let at : entry_word s e j ≡ 24 + (links + (9 * (e - 1) + j)) = omega arith in
      let a : 1 + (e - 1) ≡ e = omega arith in
      ap (λ (x : Settings). val ws (entry_word x e j)) settings_fresh
      ∙ ap (val ws) at
      ∙ ap (λ v. v % 2 ^ 28)
      (past_header (links + (9 * (e - 1) + j))
      ∙ ap (λ n. get_or body (n + (9 * (e - 1) + j)) 0) (sym (length-replicate links (link 0)))
      ∙ get_or-append-add (replicate links (link 0)) (unused_from 1 s.n ++ rest) (9 * (e - 1) + j) 0
      ∙ getD_unused 1 s.n (e - 1) j m rest (omega arith) h
      ∙ ap (λ n. get_or (unused_entry (next_of n m)) j 0) a)

  -- the link to the next unused entry
  pub next_fresh : (e m : ℕ) → 1 ≤ e → e + suc m ≡ s.n → field ws TO-TAIL e ≡ e + 1
  next_fresh e m g k =
      let l = legal.few_blocks in
      field_fresh TO-TAIL e (suc m) (lit< tt) g k ∙ rw (eqb-suc-zero m) (value_link (e + 1) (omega arith))

  pub last_fresh : (e : ℕ) → 1 ≤ e → e + 0 ≡ s.n → field ws TO-TAIL e ≡ 0
  last_fresh e g k = field_fresh TO-TAIL e 0 (lit< tt) g k

  -- their other values
  abbrev Zero : ℕ → ℕ → Type 0
  Zero e j = field ws j e ≡ 0

  pub zeros_fresh : (e m : ℕ) → 1 ≤ e → e + m ≡ s.n → Zero e BLOCK × Zero e COUNT × Zero e SECTION × Zero e MODIFIED × Zero e TO-HEAD × Zero e
      CHAIN-TO-HEAD × Zero e CHAIN-TO-TAIL × Zero e NEXT-SYNONYM
  zeros_fresh e m g k = (
    field_fresh BLOCK e m (lit< tt) g k,
    field_fresh COUNT e m (lit< tt) g k,
    field_fresh SECTION e m (lit< tt) g k,
    field_fresh MODIFIED e m (lit< tt) g k,
    field_fresh TO-HEAD e m (lit< tt) g k,
    field_fresh CHAIN-TO-HEAD e m (lit< tt) g k,
    field_fresh CHAIN-TO-TAIL e m (lit< tt) g k,
    field_fresh NEXT-SYNONYM e m (lit< tt) g k,
  )

  -- ---- the lists

  pub order_fresh : order ws ≡ []
  unfolding order fresh_words
  order_fresh = refl

  pub walk_none : (j e : ℕ) → e ≡ 0 → walk ws j e ≡ []
  unfolding walk
  walk_none j e h = rw h

  along_none : (more : ℕ) → along ws TO-TAIL more 0 ≡ []
  unfolding along
  along_none zero = refl
  along_none (suc more) = refl

  along_some : (more e : ℕ) → 1 ≤ e → along ws TO-TAIL (suc more) e ≡ e ∷ along ws TO-TAIL more (field ws TO-TAIL e)
  unfolding along
  along_some more e g =
      if_no (eqb e 0) [] (e ∷ along ws TO-TAIL more (field ws TO-TAIL e)) (no_eqb {a = e} {b = 0} (λ (h : e ≡ 0). absurd (omega arith)))

  along_fresh : (k more e : ℕ) → 1 ≤ e → e + k ≡ s.n → suc k ≤ more → along ws TO-TAIL more e ≡ counting e (suc k)
  unfolding counting
  along_fresh k zero e g h room = absurd (omega arith)
  along_fresh zero (suc more) e g h room = along_some more e g ∙ ap (λ t. e ∷ t) (ap (along ws TO-TAIL more) (last_fresh e g h) ∙ along_none more)
  along_fresh (suc k) (suc more) e g h room =
      let next : field ws TO-TAIL e ≡ suc e = next_fresh e k g h ∙ add-one e in
      along_some more e g ∙ ap (λ t. e ∷ t) (ap (along ws TO-TAIL more) next ∙ along_fresh k more (suc e) (omega arith) (omega arith) (omega arith))

  pub unused_fresh : unused_entries ws ≡ counting 1 s.n
  unfolding unused_entries walk fresh_words
  unused_fresh =
      let l = legal.some_blocks in
      let all : suc (s.n - 1) ≡ s.n = omega arith in
      let enough : suc (settings_in ws).n ≡ suc s.n = ap (λ (x : Settings). suc x.n) settings_fresh in
      ap (λ n. along ws TO-TAIL n 1) enough ∙ along_fresh (s.n - 1) (suc s.n) 1 (omega arith) (omega arith) (omega arith) ∙ ap (counting 1) all
