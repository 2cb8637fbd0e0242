use Rattle.std.proofs.Common.{ℕ, ◌≡◌, ◌<◌, false, slice_index_or, subst}
use Rattle.atlas_search.specs.Tables.{head_of, Lists}
use Rattle.atlas_search.proofs.SearchLemmas.FewHeads.{list-of}
use Rattle.atlas_search.proofs.table.Table.list_of_few.Goals as goal

pub returns : goal.returns
returns g c =
    let t = c.self.inside in
    subst (λ (v : Lists). v.is_grown ≡ false → (k : ℕ) → k < 2704 → (head_of v.heads k).number ≡ c.args.i
    → slice_index_or t.only c.args.i 0 ≡ k) c.self.view_is
    (λ few. list-of t.heads.items t.only c.self.invariant.0 few c.args.i c.requires)
