use Rattle.std.proofs.Common.{◌≡◌, Bool, true, false, refl, ap, ◌∙◌, arith}
use mir.Val.{bool_byte}
use Rattle.basics.specs.Basics.{bit}
use Rattle.stack.specs.Occupancy.{class_of}
use Rattle.occupancy.proofs.Laws.{shows_more, class_fits}
use Rattle.occupancy.proofs.and_resident.Goals as goal

as_bit : (b : Bool) → bool_byte b ≡ bit b
as_bit true = refl
as_bit false = refl

pub offset_bounds-figures-class : goal.offset_bounds-figures-class
offset_bounds-figures-class c = let h = class_fits _ _ _ c.class_of-class.ensures c.count_of.ensures c.requires.1.legal in omega arith

pub bounds-figures-class : goal.bounds-figures-class
bounds-figures-class c = class_fits _ _ _ c.class_of-class.ensures c.count_of.ensures c.requires.1.legal

pub bounds-figures-class-2 : goal.bounds-figures-class-2
bounds-figures-class-2 c = class_fits _ _ _ c.class_of-class.ensures c.count_of.ensures c.requires.1.legal

pub offset_bounds-figures-class-2 : goal.offset_bounds-figures-class-2
offset_bounds-figures-class-2 c = let h = class_fits _ _ _ c.class_of-class.ensures c.count_of.ensures c.requires.1.legal in omega arith

pub bounds-figures-class-3 : goal.bounds-figures-class-3
bounds-figures-class-3 c = class_fits _ _ _ c.class_of-class.ensures c.count_of.ensures c.requires.1.legal

pub bounds-figures-class-4 : goal.bounds-figures-class-4
bounds-figures-class-4 c = class_fits _ _ _ c.class_of-class.ensures c.count_of.ensures c.requires.1.legal

pub returns : goal.returns
returns c = λ l shows. shows_more c.args.figures.now l _ _ _ c.requires.1.legal (c.class_of-class.ensures ∙ ap class_of c.count_of.ensures)
    (c.from-modified.ensures ∙ as_bit c.marks_of.result.modified ∙ ap (λ x. bit x.modified) c.marks_of.ensures) shows
