use Rattle.std.proofs.Common.{◌∙◌, ap, arith}
use Rattle.atlas_entries.specs.Entries.{numbers}
use Rattle.atlas_cache.proofs.GatherLemmas.{coming, coming-number, gathered-all, gathered-here, gathered-none, gathered-past, none-gathered}
use Rattle.atlas_cache.proofs.WalkLemmas.{numbers-append}
use Rattle.atlas_cache.proofs.cache.repacking.rectangles_of.Goals.{then-found-page+in_ok-push, else-found-page}
use Rattle.atlas_cache.proofs.cache.repacking.rectangles_of.Goals as goal

pub loop-init : goal.loop-init
loop-init g c = none-gathered c.args.page _ _ _ c.new-held.ensures.items c.newest-next.ensures.first

pub returns-in_default-clause-held : goal.returns-in_default-clause-held
returns-in_default-clause-held g c = gathered-none c.args.page _ _ _ (rw c.in_default.is at c.loop.invariant)

pub returns-clause-held : goal.returns-clause-held
returns-clause-held g c =
    gathered-all c.args.page _ _ _ _ c.loop.invariant (omega (arith, c.loop-test.false, c.len-end.ensures))

pub entry-found-requires : goal.entry-found-requires
entry-found-requires g c = coming-number c.args.page _ _ _ _ (rw c.in-Some.is at c.loop.invariant) c.prove_kept.ensures.numbers

pub loop-preserved : goal.loop-preserved
loop-preserved g c =
    let w = coming c.args.page _ _ _ _ (rw c.in-Some.is at c.loop.invariant) c.prove_kept.ensures.numbers c.entry-found.result
    c.entry-found.ensures in
    let first = c.older-next.ensures.next (numbers w.done) (numbers w.rest)
    (ap numbers w.was ∙ numbers-append w.done (c.in-Some.number, c.entry-found.result) w.rest) in
    elim c.if-found-page.branch [
      | then-found-page+in_ok-push b ↦
          gathered-here c.args.page _ _ _ _ _ _ _ w first b.if-found-page.true (ap (λ v. v.items) b.held-is ∙ b.in_ok-push.ensures.items)
      | else-found-page b ↦ gathered-past c.args.page _ _ _ _ _ _ _ w first b.if-found-page.false (ap (λ v. v.items) b.held-is)
    ]
