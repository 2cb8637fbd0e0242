use Rattle.std.proofs.Common.{◌∙◌, [], ◌∷◌, ◌++◌, ◌+◌, length, get_or, take, add-one, None, arith, ap, subst, sym}
use Rattle.std.specs.List.{AllZip}
use Rattle.std.proofs.Math.Seq.{take-suc}
use Rattle.std.proofs.lemmas.List.{length-append}
use Rattle.std.proofs.lemmas.Slice.Zip.{all_zipped_more}
use Rattle.atlas_sheet.specs.Grouping.{IsSlotIn}
use Rattle.atlas_sheet.proofs.slots.slots_of.Goals as goal

pub loop-number-preserved : goal.loop-number-preserved
loop-number-preserved g c =
    let k = c.loop-number.number-index in
    let groups = c.args.groups.now in
    let sorted = c.in_ok-sorted.sorted.items in
    let slots = c.loop-number.slots.items in
    let slot = c.slot_in-slot.result in
    let longer = ap length c.in_ok-push.ensures.items ∙ length-append slots (slot ∷ []) in
    let here : IsSlotIn sorted (get_or groups k None) slot =
    subst (λ ns. IsSlotIn ns (get_or groups k None) slot) c.deref.ensures.value c.slot_in-slot.ensures in
    let taken = ap (λ m. take m groups) (add-one k) ∙ take-suc groups k None c.loop-number-test.true in
    record {
      long = omega (arith, longer, c.loop-number.invariant.long);
      slots = subst (AllZip (IsSlotIn sorted) (take (k + 1) groups)) (sym c.in_ok-push.ensures.items)
          (subst (λ gs. AllZip (IsSlotIn sorted) gs (slots ++ slot ∷ [])) (sym taken)
          (all_zipped_more (IsSlotIn sorted) (take k groups) slots (get_or groups k None) slot c.loop-number.invariant.slots here));
    }
