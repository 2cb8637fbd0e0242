use Rattle.std.proofs.Common.{sym}
use Rattle.atlas_cache.proofs.ForcedLemmas.{counted_else, counted_if}
use Rattle.atlas_cache.proofs.cache.TextureCache.insert_new.Goals as goal

pub returns-then-has_area-clause-inserts : goal.returns-then-has_area-clause-inserts
returns-then-has_area-clause-inserts g c =
    let it = c.insert_uncounted-inserted in
    let has = rw c.if-has_area.true at (sym c.have_area-has_area.ensures) in
    let sum = rw c.saturating_sub-forced.ensures at c.saturating_add-self-inside.ensures in
    let told = counted_if c.args.asked c.args.key c.args.size it.result c.args.changes.now.items it.new.changes.items c.args.self.now
    it.new.self c.saturating_add-self-inside.result it.ensures.inserts (rw (← c.self.view_is) has)
    (rw (← c.self-2.view_is, ← c.self.view_is) sum) in
    rw (← c.self-2.view_is) at told

pub returns-then-has_area-clause-short : goal.returns-then-has_area-clause-short
returns-then-has_area-clause-short g c = λ is. rw (← c.self-2.view_is) at c.insert_uncounted-inserted.ensures.short is

pub returns-then-has_area-clause-lacks : goal.returns-then-has_area-clause-lacks
returns-then-has_area-clause-lacks g c = λ is. rw (← c.self-2.view_is) at c.insert_uncounted-inserted.ensures.lacks is

pub returns-then-has_area-clause-reserves : goal.returns-then-has_area-clause-reserves
returns-then-has_area-clause-reserves g c = λ n had keeps.
    let left = c.insert_uncounted-inserted.ensures.reserves n had keeps in
    let kept = rw (← c.self-2.view_is) at left.1 in
    (left.0, record { entries = kept.entries; slots = kept.slots; changes = kept.changes })

pub returns-then-has_area-clause-full : goal.returns-then-has_area-clause-full
returns-then-has_area-clause-full g c = λ full.
    let kept = rw (← c.self-2.view_is) at c.insert_uncounted-inserted.ensures.full full in
    record { all = kept.all; largest = kept.largest }

pub returns-then-has_area-clause-slots : goal.returns-then-has_area-clause-slots
returns-then-has_area-clause-slots g c = λ keeps. rw (← c.self-2.view_is) at c.insert_uncounted-inserted.ensures.slots keeps

pub returns-else-has_area-clause-inserts : goal.returns-else-has_area-clause-inserts
returns-else-has_area-clause-inserts g c =
    let it = c.insert_uncounted-inserted in
    let has = rw c.if-has_area.false at (sym c.have_area-has_area.ensures) in
    counted_else c.args.asked c.args.key c.args.size it.result c.args.changes.now.items it.new.changes.items c.args.self.now it.new.self
    it.ensures.inserts (rw (← c.self.view_is) has)
