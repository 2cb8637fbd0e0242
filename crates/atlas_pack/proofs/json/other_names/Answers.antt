use Rattle.std.proofs.Common.{◌<◌, ◌++◌, ◌∙◌, List, ℕ, ap, length, sym, arith}
use Rattle.atlas_pack.specs.Json.{next_name_text}
use Rattle.atlas_pack.proofs.FlatMaps.{flat_more}
use Rattle.atlas_pack.proofs.json.other_names.Goals as goal

pub loop-next-preserved : goal.loop-next-preserved
loop-next-preserved c =
    let low : c.loop-next.next-index < length c.args.others.now = omega arith in
    c.in_ok-extend_from_slice.ensures.items
    ∙ ap (λ (t : List ℕ). c.loop-next.text.items ++ t) (c.deref.ensures.value ∙ c.in_ok-name.ensures)
    ∙ ap (λ (t : List ℕ). t ++ next_name_text c.next-item.result) c.loop-next.invariant
    ∙ sym (flat_more next_name_text c.args.others.now c.loop-next.next-index c.next-item.result low c.next-item.is)
