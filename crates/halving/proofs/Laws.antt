-- One turn of each loop: of `chains_cleared` and `halved_up`. Assumes nothing.
use Prim.Native.Nat.{ℕ, suc}
use mathlib.Core.Path.{◌≡◌}
use mathlib.Core.List.{List}
use Rattle.words.specs.Words.{val, set_link}
use Rattle.layout.specs.Addresses.{TO-HEAD, chain_head, chain_tail}
use Rattle.word_ops.specs.Lists.{word_of}
use Rattle.word_ops.specs.Halve.{chains_cleared, halved_entry, halved_up}

pub cleared_next : (w : List ℕ) (i before : ℕ) → i ≡ suc before
    → set_link (set_link (chains_cleared w before) (chain_head i) 0) (chain_tail i) 0 ≡ chains_cleared w i
unfolding chains_cleared
cleared_next w i before h = rw h

module _ (w : List ℕ) (at cmax : ℕ) where
  pub up_none : (n e : ℕ) → n ≡ 0 → halved_up w at cmax n e ≡ w
  unfolding halved_up
  up_none n e h = rw h

  pub up_next : (n after e : ℕ) → n ≡ suc after
      → halved_up w at cmax n e ≡ halved_up (halved_entry w at cmax e) at cmax after (val w (word_of at e TO-HEAD))
  unfolding halved_up
  up_next n after e h = rw h
