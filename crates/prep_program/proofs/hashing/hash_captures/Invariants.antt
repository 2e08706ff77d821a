use Rattle.std.proofs.Common.{◌≡◌, All, map, take}
use Rattle.prep_program.specs.Hashings.{IsHashed}
use Rattle.prep_program.proofs.hashing.hash_captures.Given as goal

-- the captures up to the next one are hashed
abbrev pub invariant-loop-name : goal.invariant-loop-name
invariant-loop-name g l = record {
  same : g.S.Source.holds l.source ≡ g.S.Source.holds l.fn.source;
  named : map (λ one. one.name.now) l.all.items ≡ map (λ name. name.now) (take l.name-index l.names);
  hashes : All (λ one. IsHashed (g.S.Source.holds l.fn.source) one) l.all.items;
}
