use Rattle.std.proofs.Common.{◌∙◌, refl}
use Rattle.atlas_tree.proofs.PlanLemmas.DonePlans.{unlisted-parts, unlisted-leaf, listed-next, planned-end, placed_holding}
use Rattle.atlas_store.proofs.StoreLemmas.TakenOnce.{only-takes}
use Rattle.atlas_tree.proofs.requests.corner_across.Goals as goal

pub list-requires : goal.list-requires
list-requires g c = (placed_holding c.place-parts.ensures c.requires.1, unlisted-leaf (unlisted-parts c.place-parts.ensures c.requires.1))

pub list-requires-2 : goal.list-requires-2
list-requires-2 g c =
    let u = listed-next (unlisted-parts c.place-parts.ensures c.requires.1) c.list.ensures in
    (_, unlisted-leaf u.1)

pub returns : goal.returns
returns g c = record {
  kept = λ h ready.
      let u = listed-next (unlisted-parts c.place-parts.ensures ready) c.list.ensures in
      let v = listed-next u.1 c.list-2.ensures in
      planned-end c.place-parts.ensures ready _ _ (c.list-2.ensures.nodes ∙ c.list.ensures.nodes) v.1 refl refl refl;
  takes = only-takes (only-takes c.place-parts.ensures.takes c.list.ensures.takes) c.list-2.ensures.takes;
}
