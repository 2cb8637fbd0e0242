use Rattle.std.proofs.Common.{sym}
use Rattle.atlas_pack.proofs.FolderNames.{known_kept, known_new, number_known, number_new}
use Rattle.atlas_pack.proofs.folders.number_of.Goals as goal

pub returns-in-Some-get-clause-group : goal.returns-in-Some-get-clause-group
returns-in-Some-get-clause-group c =
    number_known c.args.sprites.now c.args.number c.index-sprites-number.result c.args.firsts.now c.in-Some.folder c.as_bytes.result.now
    c.requires.low c.as_bytes.ensures.value c.in-Some.ensures c.requires.known
    c.in-Some-get.first.now (sym c.in-Some-get.ensures.value)

pub returns-in-Some-get-clause-known : goal.returns-in-Some-get-clause-known
returns-in-Some-get-clause-known c =
    known_kept c.args.sprites.now c.args.number c.index-sprites-number.result c.args.firsts.now c.in-Some.folder c.as_bytes.result.now
    c.requires.low c.as_bytes.ensures.value c.in-Some.ensures c.requires.known
    c.in-Some-get.first.now (sym c.in-Some-get.ensures.value)

pub returns-clause-group : goal.returns-clause-group
returns-clause-group c =
    number_new c.args.sprites.now c.args.number c.index-sprites-number.result c.args.firsts.now c.in-Some.folder c.as_bytes.result.now
    c.requires.low c.as_bytes.ensures.value c.in-Some.ensures c.requires.known (sym c.in_default-get.ensures.value)

pub returns-clause-known : goal.returns-clause-known
returns-clause-known c =
    known_new c.args.sprites.now c.args.number c.index-sprites-number.result c.args.firsts.now c.in-Some.folder c.as_bytes.result.now
    c.requires.low c.as_bytes.ensures.value c.in-Some.ensures c.requires.known c.insert.new.self
    (sym c.in_default-get.ensures.value) c.in_ok-insert.ensures.updates
