use Rattle.std.proofs.Common.{◌≡◌, ◌∙◌, List, Option, Some, ap, map, refl, rules, subst}
use Rattle.std.specs.List.{zip}
use Rattle.atlas_model.specs.declared.geometry.Size.{Size}
use Rattle.atlas_sheet.specs.declared.options.SheetOptions.{SheetOptions}
use Rattle.atlas_pack.specs.declared.sprites.Sprite.{Sprite}
use Rattle.atlas_pack.specs.Pages.{pages_text_of}
use Rattle.atlas_pack.specs.Runs.{AreSheets, IsPackFault, Several, groups_of, page_frame_of}
use Rattle.atlas_pack.proofs.run.several.Goals as goal

pub returns-clause-packs : goal.returns-clause-packs
returns-clause-packs c =
    let pages = c.in_ok-pages.pages in
    let group = c.args.settings.group in
    let sizes : c.deref-3.result.now ≡ map (λ sprite. sprite.size) c.args.sprites.items =
    c.deref-3.ensures.value ∙ c.in_ok-sizes.ensures ∙ ap (map (λ sprite. sprite.size)) c.deref.ensures.value in
    record {
      sheets = pages.sizes.items;
      places = pages.places.items;
      answered = subst (λ (o : SheetOptions). AreSheets (groups_of group c.args.sprites.items) o
          (map (λ sprite. sprite.size) c.args.sprites.items)
          pages.sizes.items pages.places.items)
          c.sheet_options-options.ensures
          (subst (λ (xs : List Size). AreSheets (groups_of group c.args.sprites.items) c.sheet_options-options.result xs pages.sizes.items
          pages.places.items) sizes
          (subst (λ (all : List Sprite). AreSheets (groups_of group all) c.sheet_options-options.result c.deref-3.result.now
          pages.sizes.items pages.places.items)
          c.deref-2.ensures.value c.in_ok-pages.ensures.pages));
      few = c.in_ok-pages.ensures.few;
      left = refl;
      told = c.in_ok-pages_lines.ensures ∙ (λ k. pages_text_of (c.deref-5.ensures.value k) (c.deref-6.ensures.value k))
          ∙ ap (pages_text_of pages.sizes.items) (c.in_ok-frames.ensures ∙ ap (map page_frame_of)
          (c.in_ok-pairs.ensures ∙ ap (zip c.args.sprites.items) c.deref-4.ensures.value));
    }

pub returns-in_err-pages-clause-fault : goal.returns-in_err-pages-clause-fault
returns-in_err-pages-clause-fault c =
    let e = c.in_err-pages.field-0.0 in
    let s = c.args.settings in
    let asked : List Sprite → Option Several = (λ all. Some (record { most = c.args.most; groups = groups_of s.group all })) in
    let sizes : c.deref-3.result.now ≡ map (λ sprite. sprite.size) c.args.sprites.items =
    c.deref-3.ensures.value ∙ c.in_ok-sizes.ensures ∙ ap (map (λ sprite. sprite.size)) c.deref.ensures.value in
    let fault = subst (λ (o : SheetOptions). IsPackFault s.fill s.dense (asked c.args.sprites.items) c.args.before o
    (map (λ sprite. sprite.size) c.args.sprites.items) e)
    c.sheet_options-options.ensures
    (subst (λ (xs : List Size). IsPackFault s.fill s.dense (asked c.args.sprites.items) c.args.before c.sheet_options-options.result xs e)
    sizes
    (subst (λ (all : List Sprite). IsPackFault s.fill s.dense (asked all) c.args.before c.sheet_options-options.result
    c.deref-3.result.now e) c.deref-2.ensures.value
    (c.in_err-pages.ensures.fault s.fill s.dense))) in
    search (rules, fault)
