use Rattle.std.proofs.Common.{Bool, IfErr, IfOk, map, rules, subst, sym, true, false, None}
use Rattle.atlas_pack.specs.Runs.{Answers, IsFilled, IsPackFault, IsAllPacked, sheet_options}
use Rattle.atlas_pack.proofs.run.found.Goals as goal

pub returns-then-settings-clause-answers : goal.returns-then-settings-clause-answers
returns-then-settings-clause-answers g c =
    let s = c.args.settings in
    let sizes = map (λ sprite. sprite.size) c.args.sprites.now in
    let fact : IfOk c.fill_one.result (λ found. IsFilled (sheet_options s) sizes found.0 found.1.items) = search rules in
    subst (λ (b : Bool). IfOk c.fill_one.result (λ found. Answers b s.dense (sheet_options s) sizes found.0 found.1.items))
    (sym c.if-settings.true) fact

pub returns-clause-answers : goal.returns-clause-answers
returns-clause-answers g c =
    let s = c.args.settings in
    let sizes = map (λ sprite. sprite.size) c.args.sprites.now in
    let fact : IfOk c.pack_whole.result (λ found. IsAllPacked s.dense (sheet_options s) sizes found.0 found.1.items) = search rules in
    subst (λ (b : Bool). IfOk c.pack_whole.result (λ found. Answers b s.dense (sheet_options s) sizes found.0 found.1.items))
    (sym c.if-settings.false) fact

pub returns-then-settings-clause-fault : goal.returns-then-settings-clause-fault
returns-then-settings-clause-fault g c =
    let s = c.args.settings in
    let sizes = map (λ sprite. sprite.size) c.args.sprites.now in
    let fact : IfErr c.fill_one.result (λ e. IsPackFault true s.dense None c.args.before (sheet_options s) sizes e) =
    search (rules, c.fill_one.ensures.fault s.dense) in
    subst (λ (b : Bool). IfErr c.fill_one.result (λ e. IsPackFault b s.dense None c.args.before (sheet_options s) sizes e))
    (sym c.if-settings.true) fact

pub returns-clause-fault : goal.returns-clause-fault
returns-clause-fault g c =
    let s = c.args.settings in
    let sizes = map (λ sprite. sprite.size) c.args.sprites.now in
    let fact : IfErr c.pack_whole.result (λ e. IsPackFault false s.dense None c.args.before (sheet_options s) sizes e) = search rules in
    subst (λ (b : Bool). IfErr c.pack_whole.result (λ e. IsPackFault b s.dense None c.args.before (sheet_options s) sizes e))
    (sym c.if-settings.false) fact
