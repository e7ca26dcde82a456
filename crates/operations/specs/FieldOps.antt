-- The operations over the fields: each is a list of stores, as the one over the words is. Assumes nothing.
use Rattle.std.specs.Prelude.{ℕ, zero, suc, ◌+◌, ◌-◌, Bool, not, eqb, leb}
use Rattle.basics.specs.Basics.{pick}
use Rattle.links.specs.Upd.{upd}
use Rattle.links.specs.Ends.{at, end}
use Rattle.layout.specs.Addresses.{RESIDENTS, SUM, NEW-BOUNDARY, OLD-BOUNDARY, UNUSED, BLOCK, COUNT, SECTION, MODIFIED, TO-HEAD, TO-TAIL, CHAIN-TO-HEAD, CHAIN-TO-TAIL, NEXT-SYNONYM}
use Rattle.linkage.specs.Fields.{Shape, Fields, setF, put, put1, CHAIN-HEADS, CHAIN-TAILS, BUCKET-HEADS, in_header}
use Rattle.word_ops.specs.Hit.{or_else, raised_count}
use Rattle.word_ops.specs.Purge.{boundary_falls}
use Rattle.word_ops.specs.Halve.{half}
use Rattle.operations.specs.Stores.{ring_put}

abbrev pub cross : Fields → ℕ → ℕ → ℕ
cross D e i = or_else (D TO-HEAD (D i 0)) e

abbrev pub lower : (ℕ → ℕ) → ℕ → ℕ → ℕ
lower f e = upd f e (f e - 1)

abbrev pub higher : (ℕ → ℕ) → ℕ → ℕ → ℕ
higher f n = upd f n (f n + 1)

abbrev pub shift : Bool → Fields → ℕ → ℕ → Fields
shift b D e i =
    setF (setF (setF D SECTION (pick b (lower (D SECTION) e) (D SECTION))) SECTION (pick b (higher (lower (D SECTION) e) (cross D e i)) (D SECTION)))
    i
    (pick b (λ _. cross D e i) (D i))

abbrev pub sections : Fields → ℕ → ℕ → Fields
sections D e t = shift (not (eqb t 0)) (shift (eqb t 2) D e (in_header OLD-BOUNDARY)) e (in_header NEW-BOUNDARY)

abbrev pub stack_out : Fields → ℕ → Fields
stack_out D e = put (put D TO-TAIL (D TO-HEAD e) (D TO-TAIL e)) TO-HEAD (D TO-TAIL e) (D TO-HEAD e)

abbrev pub stack_in : Fields → ℕ → Fields
stack_in D e = put (put (put (put D TO-HEAD e 0) TO-TAIL e (D TO-TAIL 0)) TO-HEAD (D TO-TAIL 0) e) TO-TAIL 0 e

abbrev pub chain_out : Bool → Fields → ℕ → ℕ → Fields
chain_out b D c e =
    setF (setF (setF (setF D CHAIN-HEADS (pick b (upd (D CHAIN-HEADS) c (end (D CHAIN-HEADS c) (D CHAIN-TO-HEAD e) (D CHAIN-TO-TAIL e)))
    (D CHAIN-HEADS)))
    CHAIN-TO-TAIL (pick b (at (D CHAIN-TO-TAIL) (D CHAIN-TO-HEAD e) (D CHAIN-TO-TAIL e)) (D CHAIN-TO-TAIL)))
    CHAIN-TAILS (pick b (upd (D CHAIN-TAILS) c (end (D CHAIN-TAILS c) (D CHAIN-TO-TAIL e) (D CHAIN-TO-HEAD e))) (D CHAIN-TAILS)))
    CHAIN-TO-HEAD (pick b (at (D CHAIN-TO-HEAD) (D CHAIN-TO-TAIL e) (D CHAIN-TO-HEAD e)) (D CHAIN-TO-HEAD))

abbrev pub chain_in : Bool → Fields → ℕ → ℕ → Fields
chain_in b D c e =
    setF (setF (setF (setF (setF D CHAIN-TO-HEAD (upd (D CHAIN-TO-HEAD) e 0)) CHAIN-TO-TAIL (upd (D CHAIN-TO-TAIL) e (pick b (D CHAIN-HEADS c) 0)))
    CHAIN-TAILS (pick b (upd (D CHAIN-TAILS) c (end (D CHAIN-TAILS c) (D CHAIN-HEADS c) e)) (D CHAIN-TAILS)))
    CHAIN-TO-HEAD (pick b (at (upd (D CHAIN-TO-HEAD) e 0) (D CHAIN-HEADS c) e) (upd (D CHAIN-TO-HEAD) e 0)))
    CHAIN-HEADS (pick b (upd (D CHAIN-HEADS) c e) (D CHAIN-HEADS))

abbrev pub count : Fields → ℕ → ℕ → ℕ → Fields
count D e c c' = put1 (put D COUNT e c') (in_header SUM) (D (in_header SUM) 0 + c' - c)

abbrev pub recount : Shape → Fields → ℕ → ℕ → ℕ → Fields
recount s D e c c' =
    chain_in (leb c' s.cmax) (count (chain_out (leb c s.cmax) D c e) e c c') c' e

abbrev pub front : Fields → ℕ → ℕ → Fields
front D e t = stack_in (stack_out (sections D e t) e) e

abbrev pub hitD : Shape → Fields → ℕ → Fields
hitD s D e = recount s (front D e (D SECTION e)) e (D COUNT e) (raised_count (D SECTION e) (D COUNT e))

abbrev pub pull : Bool → Fields → ℕ → Fields
pull b D i =
    setF (setF D SECTION (pick b (lower (D SECTION) (D i 0)) (D SECTION))) i (pick b (λ _. D TO-TAIL (D i 0)) (D i))

abbrev pub pull_both : Fields → ℕ → ℕ → Fields
pull_both D e t =
    let D1 : Fields = pull (boundary_falls (eqb t 2) (D (in_header OLD-BOUNDARY) 0) e) D (in_header OLD-BOUNDARY) in pull
    (boundary_falls (not (eqb t 0)) (D (in_header NEW-BOUNDARY) 0) e) D1 (in_header NEW-BOUNDARY)

abbrev pub unuse : Fields → ℕ → Fields
unuse D e =
    put1 (put1 (put (put (put D SECTION e 0) TO-HEAD e 0) TO-TAIL e (D (in_header UNUSED) 0)) (in_header UNUSED) e) (in_header RESIDENTS)
    (D (in_header RESIDENTS) 0 - 1)

abbrev pub purge_stack : Fields → ℕ → Fields
purge_stack D e = unuse (stack_out (pull_both D e (D SECTION e)) e) e

abbrev pub unchain : Shape → Fields → ℕ → Fields
unchain s D e = put (put (chain_out (leb (D COUNT e) s.cmax) D (D COUNT e) e) CHAIN-TO-HEAD e 0) CHAIN-TO-TAIL e 0

abbrev pub unhash : Fields → ℕ → ℕ → ℕ → Fields
unhash D b q e = put (ring_put D NEXT-SYNONYM BUCKET-HEADS b q (D NEXT-SYNONYM e)) NEXT-SYNONYM e 0

-- block, count and modified word of an entry that is no resident any more
abbrev pub blank : Fields → ℕ → Fields
blank D e = put1 (put (put (put D BLOCK e 0) MODIFIED e 0) COUNT e 0) (in_header SUM) (D (in_header SUM) 0 - D COUNT e)

abbrev pub purgeD : Shape → Fields → ℕ → ℕ → Fields
purgeD s D e q = blank (unhash (unchain s (purge_stack D e) e) (s.hash (D BLOCK e)) q e) e

abbrev pub rise : Bool → Fields → ℕ → Fields
rise b D i =
    setF (setF D SECTION (pick b (higher (D SECTION) (D TO-HEAD (D i 0))) (D SECTION))) i (pick b (λ _. D TO-HEAD (D i 0)) (D i))

abbrev pub pop : Fields → ℕ → Fields
pop D e = stack_in (put1 D (in_header UNUSED) (D TO-TAIL e)) e

abbrev pub rise_old : Shape → Fields → ℕ → ℕ → Fields
rise_old s D e r = rise (leb s.old r) (pop D e) (in_header OLD-BOUNDARY)

abbrev pub rise_both : Shape → Fields → ℕ → ℕ → Fields
rise_both s D e r = rise (leb s.new r) (rise_old s D e r) (in_header NEW-BOUNDARY)

abbrev pub stack_on : Shape → Fields → ℕ → Fields
stack_on s D e = put1 (rise_both s D e (D (in_header RESIDENTS) 0)) (in_header RESIDENTS) (D (in_header RESIDENTS) 0 + 1)

abbrev pub rehash : Shape → Fields → ℕ → ℕ → Fields
rehash s D e n = put (put (put D BLOCK e n) NEXT-SYNONYM e (D BUCKET-HEADS (s.hash n))) BUCKET-HEADS (s.hash n) e

abbrev pub enterD : Shape → Fields → ℕ → ℕ → ℕ → Fields
enterD s D e n m = rehash s (put (chain_in (leb 1 s.cmax) (count (stack_on s D e) e 0 1) 1 e) MODIFIED e m) e n

-- the victim e, the synonym before it q
abbrev pub replaceD : Shape → Fields → ℕ → ℕ → ℕ → ℕ → Fields
replaceD s D e q n m =
    rehash s (put (unhash (recount s (front D e (D SECTION e)) e (D COUNT e) 1) (s.hash (D BLOCK e)) q e) MODIFIED e m) e n

abbrev pub zero_to : ℕ → (ℕ → ℕ) → ℕ → ℕ
zero_to zero f = f
zero_to (suc k) f = upd (zero_to k f) (suc k) 0

abbrev pub clear : ℕ → Fields → Fields
clear k D = setF (setF D CHAIN-HEADS (zero_to k (D CHAIN-HEADS))) CHAIN-TAILS (zero_to k (D CHAIN-TAILS))

abbrev pub halve_one : Shape → Fields → ℕ → Fields
halve_one s D x = chain_in (leb (half (D COUNT x)) s.cmax) (count D x (D COUNT x) (half (D COUNT x))) (half (D COUNT x)) x

unfoldable pub halve_up : Shape → ℕ → ℕ → Fields → Fields
halve_up s zero x D = D
halve_up s (suc n) x D = halve_up s n (D TO-HEAD x) (halve_one s D x)
