use Rattle.std.proofs.Common.{◌<◌, ◌^◌, ◌∙◌, refl, subst, sym, rules}
use Rattle.atlas_model.specs.Pixels.{natural, options_of, sides_of}
use Rattle.atlas_model.specs.Choice.{AreValid}
use Rattle.atlas_store.specs.Store.Starts.{detached_holding}
use Rattle.atlas_store.proofs.StoreLemmas.Starts.{whole_leaf}
use Rattle.atlas_store.proofs.StoreLemmas.TakenOnce.{once-whole}
use Rattle.atlas_store.proofs.store.Store.start.Goals as goal

pub list-requires : goal.list-requires
list-requires g c =
    let wide : natural c.args.size.width < 2 ^ 31 = search rules in
    let high : natural c.args.size.height < 2 ^ 31 = search rules in (
      detached_holding (sides_of c.args.size),
      whole_leaf _ c.args.size (record {
        slots = search rules;
        lists = c.clear-2.ensures.blank;
        unused = refl;
        recent = refl;
        valid =
            subst (λ o. AreValid (options_of o)) (sym c.set.ensures) c.requires.options;
      }) c.requires.size wide high,
    )

pub returns : goal.returns
returns g c =
    let wide : natural c.args.size.width < 2 ^ 31 = search rules in
    let high : natural c.args.size.height < 2 ^ 31 = search rules in
    record {
      begun = record {
        holds =
            c.list.ensures.kept (detached_holding (sides_of c.args.size))
            (whole_leaf _ c.args.size (record {
              slots = search rules;
              lists = c.clear-2.ensures.blank;
              unused = refl;
              recent = refl;
              valid =
                  subst (λ o. AreValid (options_of o)) (sym c.set.ensures) c.requires.options;
            }) c.requires.size wide high);
        slots = c.list.ensures.nodes ∙ search rules;
        one = c.list.ensures.slots ∙ search rules;
        once = c.list.ensures.takes.once (once-whole c.args.size (search rules) refl);
        options = c.list.ensures.takes.options ∙ c.set.ensures;
      };
      capacity = c.list.ensures.takes.capacity ∙ search rules;
      turns = c.list.ensures.takes.turns;
    }
