use Rattle.std.proofs.Common.{◌∙◌, map, ap, sym}
use Rattle.atlas_sheet.specs.Sheets.{used_area}
use Rattle.atlas_sheet.proofs.sheets.filled_of.Goals as goal

pub returns-clause-shown : goal.returns-clause-shown
returns-clause-shown g c =
    let a = c.args.arrangement.now in
    record {
      each = c.in_ok-places.ensures.each;
      lying = a.lying.items;
      numbered = a.order.items;
      numbers = sym (c.in_ok-order.ensures.numbers ∙ ap (map (λ s. s.0)) c.deref-2.ensures.value);
      choice = a.choice;
      arranged = rw c.in_ok-places.ensures.areas c.requires;
    }

pub returns-clause-order : goal.returns-clause-order
returns-clause-order g c = c.in_ok-order.ensures.numbers ∙ ap (map (λ s. s.0)) c.deref-2.ensures.value

pub returns-clause-area : goal.returns-clause-area
returns-clause-area g c =
    c.used_area-used.ensures ∙ ap used_area (c.deref.ensures.value ∙ sym c.in_ok-places.ensures.areas)
