-- A call of `cut`, and the meaning of the audit of the files that it wrote.
use Rattle.std.specs.Prelude.{◌≡◌, ℕ, List, [], ◌∷◌, map}
use Rattle.audit_model.specs.declared.certificate.Certificate.{Certificate}
use Rattle.prep_blocks.specs.declared.block.Block.{Block}
use Rattle.prep_blocks.specs.Read.{bytes_of}
use Rattle.prep_cut.specs.declared.plan.Plan.{Plan}
use Rattle.prep_program.specs.declared.cutting.ToCut.{ToCut}
use Rattle.prep_program.specs.AllCuts.{files_cut, marks_of}
use Rattle.prep_program.specs.Making.{FileMade}
use Rattle.prep_verdict.specs.Audited.{ExplainsTheRest}
use Rattle.prep_verdict.specs.Rest.{Capture}

-- the captures of a call, each with its blocks and with the proposals for its packets
abbrev pub captures_of : List ToCut → List (List Block) → List Capture
captures_of [] captures = []
captures_of (one ∷ others) [] = []
captures_of (one ∷ others) (blocks ∷ captures) = record { text = bytes_of blocks; blocks = blocks; proposals = one.proposals.items } ∷ captures_of others captures

-- the contents of the files that were made from them
abbrev pub texts_cut : Plan → List ToCut → List (List Block) → List (List ℕ)
texts_cut plan to_cut captures = map (λ (file : FileMade). file.bytes) (files_cut plan to_cut (marks_of plan to_cut captures))

-- By the policy of the call, one run of the server explains every datagram of the service in the
-- texts of its captures, except those of packets that a line of its list excludes.
pub record ExplainsTheCall (plan : Plan) (to_cut : List ToCut) (captures : List (List Block)) (texts : List (List ℕ)) (policy users : List ℕ) (certificate : Certificate) : Type 0 where
  pub rest : ExplainsTheRest plan (captures_of to_cut captures) policy users certificate
  pub policy_is : rest.taken.policy ≡ plan.policy
  pub texts_are : map (λ (capture : Capture). capture.text) (captures_of to_cut captures) ≡ texts
