use Rattle.std.proofs.Common.{[], refl}
use Rattle.audit_text.proofs.text_reader.TextReader.new.Goals as goal

pub returns : goal.returns
returns g c start says = (record { said = start; line = 1; rest = [] }, refl, record { said = says; line = refl; rest = c.new.ensures.items })
