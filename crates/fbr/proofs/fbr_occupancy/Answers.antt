use Prim.Native.Nat.{ℕ, ◌≤◌}
use native.Mathlib.Omega.{arith}
use mathlib.Core.Path.{◌≡◌, refl, ap, ◌∙◌}
use mathlib.Core.List.{List}
use lib.ListN.{length, length-append}
use borrow.Author.Tests.{le-leb, lt-leb}
use Rattle.refusals.proofs.Laws.{number_some}
use Rattle.promises.specs.Occupancy.{table_in}
use Rattle.promises.proofs.OccupancyLaws.{eight}
use Rattle.fbr.specs.Occupancy.{occupancy_figures}
use Rattle.fbr.specs.FrontLaws.{two_fronts}
use Rattle.fbr.proofs.Laws.{no_table}
use Rattle.fbr.proofs.fbr_occupancy.Goals as goal

sixteen : (words : List ℕ) → length (occupancy_figures words) ≡ 16
sixteen words = let e = eight words in omega (arith, length-append (table_in words).residents (table_in words).modified, e.0, e.1)

pub returns-then-out-lt-OCCUPANCY_FIGURES : goal.returns-then-out-lt-OCCUPANCY_FIGURES
returns-then-out-lt-OCCUPANCY_FIGURES c =
    let short = lt-leb (length (occupancy_figures c.args.dir.now)) (length c.args.out.now) (omega (arith, c.if-out-lt-OCCUPANCY_FIGURES.true, sixteen c.args.dir.now)) in
    rw short (c.from.ensures, refl)

pub returns-in-Ok : goal.returns-in-Ok
returns-in-Ok c =
    let t = c.in-Ok.t in
    let shows = c.in-Ok.ensures.figures in
    let long : length t.residents ≡ 8 = ap length shows.0 ∙ (eight c.args.dir.now).0 in
    let room : 16 ≤ length c.args.out.now = c.if-out-lt-OCCUPANCY_FIGURES.false in
    rw (le-leb (length (occupancy_figures c.args.dir.now)) (length c.args.out.now) (omega (arith, room, sixteen c.args.dir.now)), ← shows.0, ← shows.1)
    (c.in-Ok.ensures.number, two_fronts t.residents t.modified c.args.out.now _ _ 8 long (omega arith) c.put.ensures c.put-in-Ok.ensures)

pub returns-in-Err : goal.returns-in-Err
returns-in-Err c =
    let number = c.in-Err.ensures.number in
    let none = no_table c.args.dir.now (λ e. number_some c.in-Err.why (number ∙ e)) in
    let room : 16 ≤ length c.args.out.now = c.if-out-lt-OCCUPANCY_FIGURES.false in
    rw (le-leb (length (occupancy_figures c.args.dir.now)) (length c.args.out.now) (omega (arith, room, sixteen c.args.dir.now)), none)
    (c.from-in-Err.ensures ∙ number, c.put-in-Err.ensures)
