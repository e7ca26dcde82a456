-- What words do to a resident's marks. A flush and a tick clear both where the resident is written out, modified nowhere else; seen is
-- left only where modified is.
use Rattle.std.specs.Prelude.{◌+◌, ◌≤◌, ◌≡◌, refl, Bool, true, false, ◌&&◌, ◌||◌, not, T}
use Rattle.std.proofs.Common.{arith, ap, subst}
use Rattle.basics.specs.Basics.{when◌then◌else◌, bit}
use Rattle.basics.specs.TestLaws.{if_yes}
use Rattle.stack.specs.declared.Marks.{Marks}
use Rattle.stack.specs.Recency.{asked_marks, cleared, due, saw_tick, ticked}

yes_or : (a b : Bool) → T a → T (a || b)
yes_or true b t = tt
yes_or false b t = absurd t

-- a write sets modified, so that seen has it
pub asked_seen_modified : (written : Bool) (m : Marks) → (T m.seen → T m.modified) → T (asked_marks written m).seen
    → T (asked_marks written m).modified
asked_seen_modified written m h s = yes_or m.modified written (h s)

-- `chosen` are written out; marks then `change`
pub record WritesOut (chosen : Marks → Bool) (change : Marks → Marks) : Type 0 where
  pub cleans : (m : Marks) → bit (chosen m) + bit (change m).modified ≡ bit m.modified
  pub clears : (m : Marks) → T (chosen m) → change m ≡ cleared m
  pub seen : (m : Marks) → T (change m).seen → T (change m).modified

module _ {chosen : Marks → Bool} {change : Marks → Marks} (out : WritesOut chosen change) (m : Marks) where
  pub chosen_modified : T (chosen m) → T m.modified
  chosen_modified = go (chosen m) m.modified (out.cleans m)
    where
      go : (c a : Bool) → bit c + bit (change m).modified ≡ bit a → T c → T a
      go true true e t = tt
      go true false e t = absurd (omega (arith, e))
      go false a e t = absurd t

  pub spared_unmodified : T (not (chosen m)) → T (not (change m).modified) → T (not m.modified)
  spared_unmodified = go (chosen m) (change m).modified m.modified (out.cleans m)
    where
      go : (c d a : Bool) → bit c + bit d ≡ bit a → T (not c) → T (not d) → T (not a)
      go true d a e t u = absurd t
      go false true a e t u = absurd u
      go false false true e t u = absurd (omega (arith, e))
      go false false false e t u = tt

pub flush_out : WritesOut (λ m. m.modified) cleared
flush_out = record { cleans = λ m. go m.modified; clears = λ m t. refl; seen = λ m t. t }
  where
    go : (a : Bool) → bit a + 0 ≡ bit a
    go true = refl
    go false = refl

pub tick_out : WritesOut due ticked
tick_out =
    record {
      cleans = λ m. cleans m m.modified m.seen refl;
      clears = λ m. if_yes (due m) (cleared m) (saw_tick m);
      seen = λ m. seen m (due m);
    }
  where
    cleans : (m : Marks) (a t : Bool) → m.modified ≡ a → bit (a && t) + bit (when a && t then cleared m else saw_tick m).modified ≡ bit a
    cleans m true true e = refl
    cleans m true false e = ap (λ a. 0 + bit a) e
    cleans m false t e = ap (λ a. 0 + bit a) e

    seen : (m : Marks) (d : Bool) → T (when d then cleared m else saw_tick m).seen → T (when d then cleared m else saw_tick m).modified
    seen m true t = t
    seen m false t = t

-- one that a tick leaves modified hadn't seen a tick, and has now
pub tick_seen_lem : (m : Marks) → T (not (due m)) → T (ticked m).modified → bit m.seen + 1 ≤ bit (ticked m).seen
tick_seen_lem m = go m.modified m.seen refl
  where
    go : (a t : Bool) → m.modified ≡ a → let after = (when a && t then cleared m else saw_tick m) in
        T (not (a && t)) → T after.modified → bit t + 1 ≤ bit after.seen
    go true true e spared u = absurd spared
    go true false e spared u = rw e (omega arith)
    go false t e spared u = absurd (subst T e u)
