use Rattle.std.proofs.Common.{◌∙◌, sym, refl, arith}
use Rattle.std.proofs.lemmas.Bool.{false≢true}
use Rattle.atlas_cache.proofs.ListLemmas.{length-listed, not-numbered}
use Rattle.atlas_cache.proofs.cache.TextureCache.add_blank.Goals as goal

pub join_blank-requires : goal.join_blank-requires
join_blank-requires g c =
    let absent = rw (← c.self.view_is) at c.requires.absent in
    rw (not-numbered g.K.PartialEq.eq c.args.key c.self.inside.entries.entries absent) refl

pub place_of-requires : goal.place_of-requires
place_of-requires g c = record {
  large = λ lies. absurd (false≢true (sym lies ∙ c.in_ok-entry.ensures.blank));
  empty = λ _. rw c.in_ok-entry.ensures.sized c.requires.empty;
}

pub invariant_of-self-2 : goal.invariant_of-self-2
invariant_of-self-2 g c =
    let was = c.self.invariant in
    let made = c.in_ok-entry.ensures in
    let falls = was.frames in
    record {
      held = rw (made.first, made.blank) was.held;
      bordered = rw made.first (
        record { large = λ lies. absurd (false≢true (sym lies ∙ made.blank)); empty = λ _. rw made.sized c.requires.empty },
        was.bordered,
      );
      frames = rw (made.first, made.used) (omega arith, falls);
    }

pub returns-clause-inserts : goal.returns-clause-inserts
returns-clause-inserts g c =
    let made = c.in_ok-entry.ensures in
    rw (← c.self.view_is) (record {
      entry = c.in_ok-entry.entry;
      first = made.first;
      blank = made.blank;
      named = made.named;
      sized = made.sized;
      used = made.used;
      shows = rw (c.place_of.ensures, c.options.ensures.options) refl;
      next = made.next.next;
      dense = λ same. length-listed c.self.inside.entries.entries ∙ made.next.dense same;
      numbers = made.made;
      reserved = made.reserved;
      pages = refl;
      options = refl;
      frame = refl;
      counts = refl;
    })
