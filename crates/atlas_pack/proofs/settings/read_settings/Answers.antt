use Rattle.std.proofs.Common.{◌≡◌, ◌≢◌, [], ◌∷◌, Some, length, rules, ap, sym, subst, ◌∙◌}
use Rattle.std.proofs.lemmas.List.{nil_from_length}
use Rattle.atlas_pack.specs.declared.settings.Settings.{Settings}
use Rattle.atlas_pack.specs.Settings.{SpellsSettings, changed_by}
use Rattle.atlas_pack.proofs.SettingLines.{changed_more, next_spelled, none_spelled, setting_shorter}
use Rattle.atlas_pack.proofs.settings.read_settings.Goals as goal

pub returns-in_err-setting-clause-only : goal.returns-in_err-setting-clause-only
returns-in_err-setting-clause-only c all spells =
    let some : c.loop-rest.rest.now ≢ [] = (λ f. let none : length c.loop-rest.rest.now ≡ 0 = ap length f in absurd (search rules)) in
    let more = c.loop-rest.invariant.only all spells in
    let next = next_spelled more.0 _ more.1 some in
    absurd (c.in_err-setting.ensures.only next.0 next.2 next.4)

pub loop-rest-preserved : goal.loop-rest-preserved
loop-rest-preserved c =
    let some : c.loop-rest.rest.now ≢ [] = (λ f. let none : length c.loop-rest.rest.now ≡ 0 = ap length f in absurd (search rules)) in
    record {
      found = λ more spells.
          let all = c.loop-rest.invariant.found (c.in_ok-setting.setting ∷ more)
          (c.in_ok-setting.after.now, c.in_ok-setting.ensures.found, spells) in
          (all.0, all.1, all.2 ∙ ap (λ (s : Settings). changed_by s more) (sym c.change.ensures));
      only = λ all spells.
          let more = c.loop-rest.invariant.only all spells in
          let next = next_spelled more.0 _ more.1 some in
          let read = c.in_ok-setting.ensures.only next.0 next.2 next.4 in
          (next.1, subst (SpellsSettings next.1) (sym read.1) next.5, changed_more _ _ _ _ _ _ _ more.2 next.3 read.0 c.change.ensures);
    }

pub returns-clause-found : goal.returns-clause-found
returns-clause-found c =
    let end : c.loop-rest.rest.now ≡ [] = nil_from_length _ (search rules) in
    let all = c.loop-rest.invariant.found [] end in
    (all.0, all.1, sym all.2)

pub returns-clause-only : goal.returns-clause-only
returns-clause-only c all spells =
    let end : c.loop-rest.rest.now ≡ [] = nil_from_length _ (search rules) in
    let more = c.loop-rest.invariant.only all spells in
    let none = none_spelled more.0 _ more.1 end in
    ap (λ (s : Settings). Some s) (sym (more.2 ∙ ap (changed_by c.loop-rest.settings) none))

pub loop-rest-smaller : goal.loop-rest-smaller
loop-rest-smaller c = setting_shorter _ _ _ c.in_ok-setting.ensures.found
