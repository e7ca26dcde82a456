-- Buckets as stores and searches: an entry joins or leaves the list of its bucket, whose head is the word `bucket`; a lookup.
-- Assumes nothing.
use Rattle.std.specs.Prelude.{Option, Some, None}
use Rattle.std.specs.Prelude.{ℕ, zero, suc, List, eqb}
use Rattle.basics.specs.Basics.{pick}
use Rattle.words.specs.Words.{val, set_link, set_number}
use Rattle.layout.specs.Addresses.{BLOCK, NEXT-SYNONYM}
use Rattle.word_ops.specs.Lists.{word_of, slot_of}

-- the block of e, which becomes the first of its bucket
unfoldable pub bucket_joined : List ℕ → ℕ → ℕ → ℕ → ℕ → List ℕ
bucket_joined w at bucket e block =
    set_link (set_link (set_number w (word_of at e BLOCK) block) (word_of at e NEXT-SYNONYM) (val w bucket)) bucket e

-- the synonym before e from x on, where q is the one before x; 0 where e is the first
unfoldable pub synonym_before : List ℕ → ℕ → ℕ → ℕ → ℕ → ℕ → ℕ
synonym_before w at e zero x q = q
synonym_before w at e (suc links) x q =
    let later = synonym_before w at e links (val w (word_of at x NEXT-SYNONYM)) x in pick (eqb x e) q later

-- e out of its bucket, where q is the synonym before it
unfoldable pub bucket_left_after : List ℕ → ℕ → ℕ → ℕ → ℕ → List ℕ
bucket_left_after w at bucket e q =
    set_link (set_link w (slot_of bucket at q NEXT-SYNONYM) (val w (word_of at e NEXT-SYNONYM))) (word_of at e NEXT-SYNONYM) 0

-- e out of its bucket, found within so many links
unfoldable pub bucket_left : List ℕ → ℕ → ℕ → ℕ → ℕ → List ℕ
bucket_left w at links bucket e = bucket_left_after w at bucket e (synonym_before w at e links (val w bucket) 0)

-- what a search for a block from entry e on finds, within so many links
unfoldable pub searched : List ℕ → ℕ → ℕ → ℕ → ℕ → Option ℕ
searched w at block zero e = None
searched w at block (suc links) e =
    pick (eqb e 0) None
    (pick (eqb (val w (word_of at e BLOCK)) block) (Some e) (searched w at block links (val w (word_of at e NEXT-SYNONYM))))

-- in a bucket
unfoldable pub found : List ℕ → ℕ → ℕ → ℕ → ℕ → Option ℕ
found w at links bucket block = searched w at block links (val w bucket)
