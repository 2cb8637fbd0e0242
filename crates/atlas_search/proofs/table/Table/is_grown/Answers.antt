use Rattle.std.proofs.Common.{ℕ, ◌≡◌, ◌<◌, true, false, subst}
use Rattle.atlas_search.specs.Tables.{head_of, is_used_at, Lists}
use Rattle.atlas_search.proofs.SearchLemmas.FewHeads.{few-slots}
use Rattle.atlas_search.proofs.table.Table.is_grown.Goals as goal

pub returns-clause-few : goal.returns-clause-few
returns-clause-few g c =
    let t = c.self.inside in
    subst (λ (v : Lists). v.is_grown ≡ false → (k : ℕ) → is_used_at v.heads k ≡ true → (head_of v.heads k).number < 8) c.self.view_is
    (few-slots t.heads.items t.only c.self.invariant.0)
