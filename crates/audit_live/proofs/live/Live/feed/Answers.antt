use Rattle.std.proofs.Common.{sym, ◌∙◌}
use Rattle.audit_keys.specs.KeyFor.{key_for}
use Rattle.audit_prefix.proofs.Living.{front as front_of_run}
use Rattle.audit_sightings.specs.Intake.{taken}
use Rattle.audit_live.specs.Knows.{stands_for}
use Rattle.audit_live.proofs.Known.{is_none, known_on}
use Rattle.audit_live.proofs.live.Live.feed.Goals as goal

pub invariant_of-self : goal.invariant_of-self
invariant_of-self c = λ going.
    known_on (taken c.self.inside.intake) (taken c.feed-fed.new.self) (key_for c.self.inside.credentials) c.self.inside.last c.self.inside.front c.sightings_are_numbered.ensures
    (record { policy = c.feed-fed.ensures.policy; rows = c.feed-fed.ensures.grows }) (c.self.invariant going)

pub returns-in-Ok-clause-prefix : goal.returns-in-Ok-clause-prefix
returns-in-Ok-clause-prefix c =
    let none = is_none c.self.inside.ended (sym c.is_some.ensures ∙ c.if-is_some.false) in
    let knows = known_on (taken c.self.inside.intake) (taken c.feed-fed.new.self) (key_for c.self.inside.credentials) c.self.inside.last c.self.inside.front c.sightings_are_numbered.ensures
    (record { policy = c.feed-fed.ensures.policy; rows = c.feed-fed.ensures.grows }) (c.self.invariant none) in
    front_of_run (key_for c.self.inside.credentials) (stands_for (taken c.feed-fed.new.self) c.self.inside.front c.self.inside.last) knows.numbered knows.going
