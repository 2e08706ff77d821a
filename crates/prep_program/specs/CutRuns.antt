-- A call of `cut`: which captures it wrote, and what it printed.
use Rattle.std.specs.Prelude.{◌≡◌, ℕ, List, map, Option, Ok}
use Rattle.audit_model.specs.PolicyText.{policy_of}
use Rattle.audit_model.specs.Sink.{followed_by}
use Rattle.prep_cut.specs.declared.plan.Plan.{Plan}
use Rattle.prep_cut.specs.declared.stated.Stated.{Stated}
use Rattle.prep_program.specs.declared.cutting.AllCut.{AllCut}
use Rattle.prep_program.specs.declared.cutting.ToCut.{ToCut}
use Rattle.prep_program.specs.declared.list_totals.Notes.{Notes}
use Rattle.prep_program.specs.declared.set_aside.CutRequest.{CutRequest}
use Rattle.prep_program.specs.AllCuts.{CutsAll}
use Rattle.prep_program.specs.CutStatus.{EndsByKept}
use Rattle.prep_program.specs.Listing.{list_file}
use Rattle.prep_program.specs.ListText.{kept_of, list_text}
use Rattle.prep_program.specs.Making.{FileMade, with_files}
use Rattle.prep_program.specs.Recordings.{RecordedAll}

-- by the policy that the text spells, the operator's options, and the captures from the stated
-- moment on
pub record IsPlanOf (plan : Plan) (stated : Stated) (policy : List ℕ) (captures : List (List ℕ)) : Type 0 where
  pub policy_is : policy_of policy ≡ Ok plan.policy
  pub stated_is : plan.stated ≡ stated
  pub noted : RecordedAll captures plan.policy stated.since plan.allocations

-- each capture was cut to its file by a plan for the request, and the list of that plan was written
-- and printed. The status depends on whether a datagram of the service was written
pub record IsCutRun (request : CutRequest) (policy : List ℕ) (captures : List (List ℕ)) (before after : Option (List FileMade)) (unprinted printed unsaid said : Option (List ℕ)) (status : ℕ) : Type 0 where
  pub plan : Plan
  pub says : Notes
  pub all : AllCut
  pub to_cut : List ToCut
  pub middle : Option (List FileMade)
  pub planned : IsPlanOf plan request.stated policy captures
  pub names : map (λ (one : ToCut). one.name.now) to_cut ≡ map (λ name. name.now) request.captures.items
  pub cuts : CutsAll all plan to_cut captures before middle
  pub listed : after ≡ with_files middle (list_file request.folder.now (list_text plan says all))
  pub printed_is : printed ≡ followed_by unprinted (list_text plan says all)
  pub ends : EndsByKept (kept_of all.totals.items) status unsaid said
