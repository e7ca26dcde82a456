-- What an operation reads of the words before it stores: where things stand. Statements only.
use Rattle.std.specs.Prelude.{ℕ, suc, ◌+◌, ◌*◌, ◌%◌, ◌<◌, ◌≡◌, List, Some}
use Rattle.fnv.specs.Fnv.{fnv}
use Rattle.settings.specs.Buckets.{buckets}
use Rattle.linkage.specs.Fields.{base}
use Rattle.linkage.specs.WordFields.{shape}
use Rattle.lists.specs.declared.Frame.{Frame}
use Rattle.word_ops.specs.declared.Picked.{Picked}
use Rattle.word_ops.specs.Victim.{victim_from}
use Rattle.promises.specs.DirectoryReady.{ReplaceReady}

-- the word that links to the first resident of a block's bucket
abbrev pub bucket_at : List ℕ → ℕ → ℕ
bucket_at w block = 24 + 2 * (shape w).cmax + (shape w).hash block

-- the same, in a frame
abbrev pub bucket_in : Frame → ℕ → ℕ
bucket_in f block = 24 + 2 * f.cmax + fnv block % f.buckets

-- the frame with n cache blocks and so many count chains
pub record FrameOf (n cmax : ℕ) (f : Frame) : Type 0 where
  pub at_is : f.«at» ≡ 15 + 2 * cmax + buckets n
  pub cmax_is : f.cmax ≡ cmax
  pub buckets_is : f.buckets ≡ buckets n
  pub links_is : f.links ≡ n + 1
  pub some_buckets : 0 < f.buckets

-- that of a directory
pub record Framed (w : List ℕ) (f : Frame) : Type 0 where
  pub at_is : f.«at» ≡ base (shape w)
  pub cmax_is : f.cmax ≡ (shape w).cmax
  pub buckets_is : f.buckets ≡ (shape w).nb
  pub links_is : f.links ≡ suc (shape w).N
  pub some_buckets : 0 < f.buckets

-- a replacement, once the search picked a victim
pub record PickedReady (words : List ℕ) (f : Frame) (p : Picked) (block : ℕ) : Type 0 where
  pub ready : ReplaceReady words block
  pub framed : Framed words f
  pub picked : victim_from words (base (shape words)) (suc (shape words).N) (shape words).cmax 1 ≡ Some p
