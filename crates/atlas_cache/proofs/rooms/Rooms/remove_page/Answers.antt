use Rattle.std.proofs.Common.{◌≡◌, ◌+◌, ◌-◌, ◌∙◌, ◌∷◌, [], ap, arith, length, length-append, rules, subst, sym}
use Rattle.std.proofs.lemmas.Bool.{eqb-true}
use Rattle.atlas_cache.specs.Rooms.{rooms_of, KeepsRooms}
use Rattle.atlas_cache.proofs.ShrinkLemmas.{drops_last, in_use, last_number, rooms_left}
use Rattle.atlas_cache.proofs.RoomLemmas.KnownPages.{known_taken}
use Rattle.atlas_cache.proofs.rooms.Rooms.remove_page.Goals as goal

pub returns-then-is_empty-clause-used : goal.returns-then-is_empty-clause-used
returns-then-is_empty-clause-used g c =
    let none = eqb-true c.self.inside.pages.len 0 (sym c.is_empty.ensures ∙ c.if-is_empty.true) in
    rw (← c.self.view_is) (λ _ rest last was idle. absurd (omega (
      arith,
      none,
      c.self.inside.pages.ok.0,
      ap length was,
      length-append rest (last ∷ []),
    )))

pub returns-then-not-is_empty-clause-used : goal.returns-then-not-is_empty-clause-used
returns-then-not-is_empty-clause-used g c =
    let number = last_number c.self.inside.pages.len c.is_empty.result c.is_empty.ensures c.if-is_empty.false in
    let long : length c.self.inside.pages.items ≡ c.len-last.result - 1 + 1 =
    omega (arith, number, c.len-last.ensures, c.self.inside.pages.ok.0) in
    rw (← c.self.view_is) (λ _. in_use c.self.inside.pages.items (c.len-last.result - 1) c.index.result.now long c.index.ensures
    (λ idle. let no = c.is_empty-2.ensures.empty.1 idle in cc))

pub invariant_of-self : goal.invariant_of-self
invariant_of-self g c =
    let number = last_number c.self.inside.pages.len c.is_empty.result c.is_empty.ensures c.if-is_empty.false in
    let long : length c.self.inside.pages.items ≡ c.len-last.result - 1 + 1 =
    omega (arith, number, c.len-last.ensures, c.self.inside.pages.ok.0) in
    let drops = drops_last c.self.inside.pages.items c.truncate.new.self.items (c.len-last.result - 1) c.number.result c.index.result.now
    long (search rules) (search rules) (c.is_empty-2.ensures.empty.0 c.if-not-is_empty.false) c.number.ensures in (
      rooms_left c.self.inside.options c.truncate.new.self.items drops.last
          (subst (λ ps. KeepsRooms (rooms_of c.self.inside.options ps)) drops.was c.self.invariant.0),
      rw (c.truncate.ensures.items, c.truncate-2.ensures.items)
          (known_taken (c.len-last.result - 1) c.self.inside.pages.items c.self.inside.known.items c.self.invariant.1),
    )

pub returns-clause-drops : goal.returns-clause-drops
returns-clause-drops g c =
    let number = last_number c.self.inside.pages.len c.is_empty.result c.is_empty.ensures c.if-is_empty.false in
    let long : length c.self.inside.pages.items ≡ c.len-last.result - 1 + 1 =
    omega (arith, number, c.len-last.ensures, c.self.inside.pages.ok.0) in
    rw (← c.self.view_is) (drops_last c.self.inside.pages.items c.truncate.new.self.items (c.len-last.result - 1) c.number.result
    c.index.result.now long (search rules) (search rules) (c.is_empty-2.ensures.empty.0 c.if-not-is_empty.false) c.number.ensures)
