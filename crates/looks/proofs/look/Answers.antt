use Rattle.std.proofs.Common.{refl}
use Rattle.refusals.proofs.Laws.{number_some}
use Rattle.looks.proofs.Laws.{no_part, is_sound, store_holds, of_store, entry_least, data_holds, of_data}
use Rattle.looks.proofs.look.Goals as goal

pub returns-in_default : goal.returns-in_default
returns-in_default c = no_part _ _ _ _ _ c.in_default.ensures c.args.bytes.ref_ptr c.args.store.ref_ptr (number_some _)

pub lookup-requires : goal.lookup-requires
lookup-requires c = (is_sound _ _ _ _ _ c.in-Ok.ensures refl, c.settings_in-s.ensures)

pub part-requires : goal.part-requires
part-requires c = store_holds _ _ _ _ _ c.in-Ok.ensures refl _ c.settings_in-s.ensures

pub returns-in_default-lookup : goal.returns-in_default-lookup
returns-in_default-lookup c = of_store _ _ _ _ _ c.in-Ok.ensures refl _ c.settings_in-s.ensures c.in_default-lookup.ensures _ _
    c.part.ensures

pub overflow_sub-e : goal.overflow_sub-e
overflow_sub-e c = entry_least _ _ _ _ _ c.in-Ok.ensures refl _ c.settings_in-s.ensures _ c.in-Some.ensures

pub part-requires-2 : goal.part-requires-2
part-requires-2 c = data_holds _ _ _ _ _ c.in-Ok.ensures refl _ c.settings_in-s.ensures _ c.in-Some.ensures

pub returns : goal.returns
returns c = of_data _ _ _ _ _ c.in-Ok.ensures refl _ c.settings_in-s.ensures _ c.in-Some.ensures _ _ c.part-2.ensures
