use Rattle.std.proofs.Common.{◌≡◌, replicate, rules}
use Rattle.std.proofs.lemmas.List.{get_or-replicate}
use Rattle.explain_frames.proofs.tally.Tally.new.Goals as goal

pub returns-clause-sightings : goal.returns-clause-sightings
returns-clause-sightings c =
    let items : c.in_ok-vec.field-0.items ≡ replicate 64 0 = search rules in
    λ number less. rw items (get_or-replicate 64 number 0 0 less)
