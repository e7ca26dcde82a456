-- The words of a fresh directory, one by one.
use Rattle.std.specs.Prelude.{ℕ, ◌+◌, ◌-◌, ◌*◌, ◌≤◌, ◌<◌, ◌≡◌, [], ◌++◌, get_or, replicate}
use Rattle.std.proofs.Common.{arith, sym, ap, ◌∙◌, get_or-append-add}
use Rattle.std.proofs.lemmas.List.{length-replicate, get_or-replicate}
use Rattle.std.proofs.Math.ListN.{get_or-append}
use Rattle.words.specs.Words.{link}
use Rattle.settings.specs.declared.Settings.{Settings}
use Rattle.settings.specs.Buckets.{buckets}
use Rattle.layout.specs.Layout.{unused_entry, unused_from, fresh_header, fresh_words}
use Rattle.layout.proofs.FreshWordLaws.{next_of, length_unused, getD_unused}

module _ (s : Settings) where
  abbrev links : ℕ
  links = 2 * s.cmax + buckets s.n

  -- where the entries begin
  abbrev base : ℕ
  base = 24 + 2 * s.cmax + buckets s.n

  pub header_at : (i : ℕ) → i < 24 → get_or (fresh_words s) i 0 ≡ get_or (fresh_header s) i 0
  unfolding fresh_words
  header_at i h = get_or-append (fresh_header s) (replicate links (link 0) ++ unused_from 1 s.n) 0 i h

  past : (i k : ℕ) → i ≡ 24 + k → get_or (fresh_words s) i 0 ≡ get_or (replicate links (link 0) ++ unused_from 1 s.n) k 0
  unfolding fresh_words
  past i k e = rw e (get_or-append-add (fresh_header s) (replicate links (link 0) ++ unused_from 1 s.n) k 0)

  pub link_at : (i : ℕ) → 24 ≤ i → i < base → get_or (fresh_words s) i 0 ≡ link 0
  link_at i l h =
      let q : i - 24 < links = omega arith in
      past i (i - 24) (omega arith)
      ∙ get_or-append (replicate links (link 0)) (unused_from 1 s.n) 0 (i - 24) (rw (length-replicate links (link 0)) q)
      ∙ get_or-replicate links (i - 24) (link 0) 0 q

  -- word j of entry e, which m entries follow
  pub unused_at : (i e j m : ℕ) → i ≡ base + 9 * (e - 1) + j → j < 9 → 1 ≤ e → e + m ≡ s.n
      → get_or (fresh_words s) i 0 ≡ get_or (unused_entry (next_of e m)) j 0
  unused_at i e j m at h l n =
      let k : ℕ = 9 * (e - 1) + j in
      let a : 1 + (e - 1) ≡ e = omega arith in
      past i (links + k) (omega arith)
      ∙ ap (λ n. get_or (replicate links (link 0) ++ unused_from 1 s.n) (n + k) 0) (sym (length-replicate links (link 0)))
      ∙ get_or-append-add (replicate links (link 0)) (unused_from 1 s.n) k 0
      ∙ sym (get_or-append (unused_from 1 s.n) [] 0 k (rw (length_unused 1 s.n) (omega arith)))
      ∙ getD_unused 1 s.n (e - 1) j m [] (omega arith) h
      ∙ ap (λ n. get_or (unused_entry (next_of n m)) j 0) a
