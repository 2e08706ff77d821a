-- A capture's pieces, and captures one after another.
use Rattle.std.proofs.Common.{◌≡◌, ℕ, List, [], ◌∷◌, ◌++◌, map, Option, Some, None, Result, Ok, Err, IfOk, refl, sym, ap, subst, ◌∙◌, append_assoc}
use Rattle.std.specs.List.{AllByRecursion}
use Rattle.std.proofs.lemmas.List.{append-nil, map-append}
use Rattle.audit_model.specs.Sink.{followed_by}
use Rattle.prep_blocks.specs.declared.block.Block.{Block}
use Rattle.prep_blocks.specs.Read.{bytes_of}
use Rattle.prep_blocks.specs.Splitting.{IsWhole}
use Rattle.prep_join.specs.declared.counts.Counts.{Counts}
use Rattle.prep_join.specs.declared.joiner.Joiner.{Joiner}
use Rattle.prep_join.specs.Rings.{interfaces_of, first_of, joined, written_of}
use Rattle.prep_join.specs.Joining.{AllFit, GoOn}
use Rattle.prep_join.specs.Joined.{IsJoining, IsDone, GoesOn}
use Rattle.prep_join.proofs.Written.{joined-one, written_of-append}
use Rattle.prep_program.specs.declared.stop.Stop.{Stop}
use Rattle.prep_program.specs.Joins.{SoFar, Joins, IsPart}

pub followed_twice : (before : Option (List ℕ)) (a b : List ℕ) → followed_by (followed_by before a) b ≡ followed_by before (a ++ b)
followed_twice None a b = refl
followed_twice (Some bytes) a b = ap Some (append_assoc bytes a b)

pub followed_none : (before : Option (List ℕ)) → before ≡ followed_by before []
followed_none None = refl
followed_none (Some bytes) = ap Some (sym (append-nil bytes))

pub nothing_yet : (joiner : Joiner) (done : List (List Block)) (before : Option (List ℕ)) → IsJoining joiner done [] [] → SoFar joiner done [] before before
nothing_yet joiner done before joining = record { current = []; joining = joining; added = followed_none before }

-- a piece more
pub piece_more : (joiner new : Joiner) (done : List (List Block)) (text piece out : List ℕ) (before middle after : Option (List ℕ)) → (s : SoFar joiner done text before middle)
    → GoesOn new done text s.current piece [] [] out → after ≡ followed_by middle out → SoFar new done (text ++ piece) before after
piece_more joiner new done text piece out before middle after s on put =
    let all : text ++ on.taken ≡ text ++ piece = ap (λ (t : List ℕ). text ++ t) (sym (append-nil on.taken) ∙ sym on.cut) in
    record {
      current = s.current ++ on.more;
      joining = subst (λ (t : List ℕ). IsJoining new done t (s.current ++ on.more)) all on.joining;
      added = put ∙ ap (λ (o : List ℕ). followed_by middle o) on.added ∙ ap (λ (m : Option (List ℕ)). followed_by m (written_of done on.more)) s.added
          ∙ followed_twice before (written_of done s.current) (written_of done on.more) ∙ ap (λ (o : List ℕ). followed_by before o) (sym (written_of-append done s.current on.more));
    }

-- the captures that are done, each of which is a part
pub record AreDone (joiner : Joiner) (texts : List (List ℕ)) (before after : Option (List ℕ)) : Type 0 where
  pub done : List (List Block)
  pub joining : IsJoining joiner done [] []
  pub spelled : map bytes_of done ≡ texts
  pub parts : AllByRecursion (λ blocks. IsPart done blocks) done
  pub ring : GoOn [] done
  pub written : after ≡ followed_by before (joined done)

pub none_done : (joiner : Joiner) (before : Option (List ℕ)) → IsJoining joiner [] [] [] → AreDone joiner [] before before
none_done joiner before joining = record { done = []; joining = joining; spelled = refl; parts = tt; ring = tt; written = followed_none before }

all_then : (P : List Block → Type 0) (xs : List (List Block)) (x : List Block) → AllByRecursion P xs → P x → AllByRecursion P (xs ++ x ∷ [])
all_then P [] x all one = (one, tt)
all_then P (y ∷ xs) x all one = (all.0, all_then P xs x all.1 one)

part_more : (done : List (List Block)) (current : List Block) → IsWhole (bytes_of current) current → interfaces_of current ≡ interfaces_of (first_of done current)
    → AllByRecursion (λ blocks. IsPart done blocks) done → AllByRecursion (λ blocks. IsPart (done ++ current ∷ []) blocks) (done ++ current ∷ [])
part_more [] current whole same parts = ((whole, same), tt)
part_more (first ∷ others) current whole same parts = all_then (λ blocks. IsPart (first ∷ others) blocks) (first ∷ others) current parts (whole, same)

go_on_one : (before done : List (List Block)) (current : List Block) → GoOn before done → AllFit (before ++ done) [] current → GoOn before (done ++ current ∷ [])
go_on_one before [] current all one = (subst (λ (d : List (List Block)). AllFit d [] current) (append-nil before) one, tt)
go_on_one before (first ∷ others) current all one =
    (all.0, go_on_one (before ++ first ∷ []) others current all.1 (subst (λ (d : List (List Block)). AllFit d [] current) (sym (append_assoc before (first ∷ []) others)) one))

-- a capture more
pub one_done : (joiner new : Joiner) (texts : List (List ℕ)) (text : List ℕ) (counts : Counts) (before middle after : Option (List ℕ)) → (d : AreDone joiner texts before middle)
    → Joins new d.done text counts middle after → AreDone new (texts ++ text ∷ []) before after
one_done joiner new texts text counts before middle after d j = record {
  done = d.done ++ j.current ∷ [];
  joining = j.ended.joining;
  spelled = map-append bytes_of d.done (j.current ∷ []) ∙ ap (λ (t : List (List ℕ)). t ++ bytes_of j.current ∷ []) d.spelled ∙ ap (λ (t : List ℕ). texts ++ t ∷ []) (sym j.ended.whole.spelled);
  parts = part_more d.done j.current (subst (λ (t : List ℕ). IsWhole t j.current) j.ended.whole.spelled j.ended.whole) j.ended.same d.parts;
  ring = go_on_one [] d.done j.current d.ring j.ended.fits;
  written = j.added ∙ ap (λ (m : Option (List ℕ)). followed_by m (written_of d.done j.current)) d.written ∙ followed_twice before (joined d.done) (written_of d.done j.current)
      ∙ ap (λ (o : List ℕ). followed_by before o) (sym (joined-one d.done j.current));
}

-- the end of a capture
pub ended : (old new : Joiner) (done : List (List Block)) (text whole : List ℕ) (before after : Option (List ℕ)) (r : Result Counts Stop) → text ≡ whole → (s : SoFar old done text before after)
    → IfOk r (λ counts. IsDone new done text s.current counts) → IfOk r (λ counts. Joins new done whole counts before after)
ended old new done text whole before after (Ok counts) e s is = record { current = s.current; ended = subst (λ (t : List ℕ). IsDone new done t s.current counts) e is; added = s.added }
ended old new done text whole before after (Err stop) e s is = tt
