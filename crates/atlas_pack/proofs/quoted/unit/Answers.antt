use Rattle.std.proofs.Common.{refl}
use Rattle.atlas_pack.proofs.quoted.unit.Goals as goal

pub returns-clause-found : goal.returns-clause-found
returns-clause-found c = record {
  a = c.in_ok-a.a;
  b = c.in_ok-b.b;
  c = c.in_ok-c.c;
  d = c.in_ok-d.d;
  after_a = c.in_ok-a.rest.now;
  after_b = c.in_ok-b.rest.now;
  after_c = c.in_ok-c.rest.now;
  first = c.in_ok-a.ensures.found;
  second = c.in_ok-b.ensures.found;
  third = c.in_ok-c.ensures.found;
  fourth = c.in_ok-d.ensures.found;
  value = refl;
}
