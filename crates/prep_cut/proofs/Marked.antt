-- Marked blocks, one more at the end.
use Rattle.std.proofs.Common.{◌≡◌, ℕ, ◌<◌, Bool, true, false, ◌==◌, List, [], ◌∷◌, ◌++◌, map, filter, length, get_or, fold, Option, Some, None, refl, sym, ap, subst, ◌∙◌, append_assoc}
use Rattle.std.specs.List.{concat}
use Rattle.std.proofs.lemmas.List.{append-nil, map-append}
use Rattle.std.proofs.lemmas.List.Elements.{filter-append}
use Rattle.std.proofs.lemmas.List.Folds.{concat-append}
use Rattle.std.proofs.lemmas.Grind.{fold-append}
use Rattle.prep_blocks.specs.declared.block.Block.{Block}
use Rattle.prep_blocks.specs.Read.{bytes_of}
use Rattle.prep_cut.specs.declared.plan.Plan.{Plan}
use Rattle.prep_cut.specs.declared.plan.Proposal.{Proposal}
use Rattle.prep_cut.specs.declared.marker.Marker.{Marker}
use Rattle.prep_cut.specs.declared.tally.Tally.{Tally}
use Rattle.prep_cut.specs.declared.tallies.Tallies.{Tallies}
use Rattle.prep_cut.specs.declared.tally.Totals.{Totals}
use Rattle.prep_cut.specs.Datagrams.{datagram_of_block}
use Rattle.prep_cut.specs.Marks.{Marked, marked, marked_by, behind, proposals_behind, proposed_for, proposed_line, line_of, is_written, written_of, is_of_line}
use Rattle.prep_cut.specs.Pairs.{Notes}
use Rattle.prep_cut.proofs.Pairing.{causes-one}
use Rattle.prep_cut.specs.Marking.{AreTallies, IsAt, tally_at, tally_more, totals_of, totals_more, tallied_with}
use Rattle.prep_cut.specs.Tallied.{no_tally, no_totals}
use Rattle.prep_causes.specs.declared.unread.Group.{Group}
use Rattle.prep_causes.specs.Groups.{no_group}
use Rattle.prep_cut.specs.declared.datagram.Datagram.{Datagram}
use Rattle.prep_cut.specs.Marks.{marked_of, proposed_cause}
use Rattle.prep_cut.specs.Unread.{group_at, group_by, group_more, group_of, owes_datagram, owing_more, owing_of, owing_with, unread_by}

pub marked-one : (plan : Plan) (proposals : List Proposal) (current : List Block) (b : Block)
    → marked plan proposals (current ++ b ∷ []) ≡ marked plan proposals current ++ marked_by plan (proposals_behind proposals current) b ∷ []
marked-one plan proposals [] b = refl
marked-one plan proposals (first ∷ others) b = ap (λ (t : List Marked). marked_by plan proposals first ∷ t) (marked-one plan (behind first.packet proposals) others b)

pub behind-one : (proposals : List Proposal) (current : List Block) (b : Block) → proposals_behind proposals (current ++ b ∷ []) ≡ behind b.packet (proposals_behind proposals current)
behind-one proposals [] b = refl
behind-one proposals (first ∷ others) b = behind-one (behind first.packet proposals) others b

pub behind-append : (proposals : List Proposal) (a b : List Block) → proposals_behind proposals (a ++ b) ≡ proposals_behind (proposals_behind proposals a) b
behind-append proposals [] b = refl
behind-append proposals (first ∷ others) b = behind-append (behind first.packet proposals) others b

one_at : (plan : Plan) (line n : ℕ) (block : Block) (cause : Option ℕ) (tally : Tally) (test : Bool) → (line == n) ≡ test
    → fold (tally_more plan) tally (filter (is_of_line line) (record { block = block; line = Some n; cause = cause } ∷ [])) ≡ tallied_with (Some n) block.packet (datagram_of_block plan.policy block) line tally
one_at plan line n block cause tally true e = rw e refl
one_at plan line n block cause tally false e = rw e refl

last_at : (plan : Plan) (line : ℕ) (block : Block) (cause : Option ℕ) (tally : Tally) (l : Option ℕ)
    → fold (tally_more plan) tally (filter (is_of_line line) (record { block = block; line = l; cause = cause } ∷ [])) ≡ tallied_with l block.packet (datagram_of_block plan.policy block) line tally
last_at plan line block cause tally None = refl
last_at plan line block cause tally (Some n) = one_at plan line n block cause tally (line == n) refl

tally-one : (plan : Plan) (line : ℕ) (blocks : List Marked) (one : Marked)
    → tally_at plan line (blocks ++ one ∷ []) ≡ tallied_with one.line one.block.packet (datagram_of_block plan.policy one.block) line (tally_at plan line blocks)
tally-one plan line blocks one =
    ap (fold (tally_more plan) no_tally) (filter-append (is_of_line line) blocks (one ∷ []))
    ∙ fold-append (tally_more plan) no_tally (filter (is_of_line line) blocks) (filter (is_of_line line) (one ∷ []))
    ∙ last_at plan line one.block one.cause (tally_at plan line blocks) one.line

group-one : (plan : Plan) (number : ℕ) (blocks : List Marked) (one : Marked) → group_at plan number (blocks ++ one ∷ []) ≡ group_more plan number (group_at plan number blocks) one
group-one plan number blocks one = fold-append (group_more plan number) no_group blocks (one ∷ [])

owing-one : (plan : Plan) (blocks : List Marked) (one : Marked) → owing_of plan (blocks ++ one ∷ []) ≡ owing_more plan (owing_of plan blocks) one
owing-one plan blocks one = fold-append (owing_more plan) 0 blocks (one ∷ [])

-- a block more in its group, and among the departures that need an arrival or a carrier
pub record IsJoined (plan : Plan) (one : Marked) (old new : Tallies) : Type 0 where
  pub len : length new.groups.groups.items ≡ length old.groups.groups.items
  pub groups : (other : ℕ) → other < length old.groups.groups.items → get_or new.groups.groups.items other no_group ≡ group_more plan other (get_or old.groups.groups.items other no_group) one
  pub owing : new.owing ≡ owing_more plan old.owing one

tallies-one : (plan : Plan) (blocks : List Marked) (one : Marked) (old new : Tallies) → AreTallies plan blocks old → length new.lines.items ≡ length old.lines.items
    → ((other : ℕ) → other < length old.lines.items → get_or new.lines.items other no_tally ≡ tallied_with one.line one.block.packet (datagram_of_block plan.policy one.block) other (get_or old.lines.items other no_tally))
    → Notes plan one old.causes new.causes → IsJoined plan one old new → AreTallies plan (blocks ++ one ∷ []) new
tallies-one plan blocks one old new are len added notes joined = record {
  groups = λ number within.
      let before : number < length old.groups.groups.items = rw (sym joined.len) within in
      joined.groups number before ∙ ap (λ (g : Group). group_more plan number g one) (are.groups number before) ∙ sym (group-one plan number blocks one);
  owing = joined.owing ∙ ap (λ (n : ℕ). owing_more plan n one) are.owing ∙ sym (owing-one plan blocks one);
  causes = causes-one plan blocks one old.causes new.causes are.causes notes;
  len = len ∙ are.len;
  lines = λ line within.
      added line (rw are.len within)
      ∙ ap (λ (t : Tally). tallied_with one.line one.block.packet (datagram_of_block plan.policy one.block) line t) (are.lines line within)
      ∙ sym (tally-one plan line blocks one);
}

totals-one : (plan : Plan) (blocks : List Marked) (one : Marked) → totals_of plan (blocks ++ one ∷ []) ≡ totals_more plan (totals_of plan blocks) one
totals-one plan blocks one = fold-append (totals_more plan) no_totals blocks (one ∷ [])

-- a marker's relation, one block later
pub is_at-one : (old new : Marker) (plan : Plan) (proposals : List Proposal) (earlier : List Marked) (current : List Block) (b : Block) → IsAt old plan proposals earlier current
    → new.plan.now ≡ old.plan.now → new.proposals.now ≡ behind b.packet old.proposals.now
    → new.totals ≡ totals_more old.plan.now old.totals (marked_by old.plan.now old.proposals.now b)
    → length new.tallies.lines.items ≡ length old.tallies.lines.items
    → ((other : ℕ) → other < length old.tallies.lines.items → get_or new.tallies.lines.items other no_tally
    ≡ tallied_with (line_of old.plan.now (proposed_line (proposed_for b.packet old.proposals.now)) b) b.packet (datagram_of_block old.plan.now.policy b) other (get_or old.tallies.lines.items other no_tally))
    → Notes old.plan.now (marked_by old.plan.now old.proposals.now b) old.tallies.causes new.tallies.causes
    → IsJoined old.plan.now (marked_by old.plan.now old.proposals.now b) old.tallies new.tallies → IsAt new plan proposals earlier (current ++ b ∷ [])
is_at-one old new plan proposals earlier current b at e-plan e-rest e-totals e-len e-lines notes joined =
    let one = marked_by plan (proposals_behind proposals current) b in
    let same : marked_by old.plan.now old.proposals.now b ≡ one = rw (at.plan_is, at.rest) refl in
    let longer = marked-one plan proposals current b in
    let all : (earlier ++ marked plan proposals current) ++ one ∷ [] ≡ earlier ++ marked plan proposals (current ++ b ∷ []) =
    append_assoc earlier (marked plan proposals current) (one ∷ []) ∙ ap (λ (t : List Marked). earlier ++ t) (sym longer) in
    record {
      plan_is = e-plan ∙ at.plan_is;
      rest = e-rest ∙ ap (behind b.packet) at.rest ∙ sym (behind-one proposals current b);
      totals = e-totals ∙ ap (λ (m : Marked). totals_more old.plan.now old.totals m) same ∙ ap (λ (p : Plan). totals_more p old.totals one) at.plan_is
          ∙ ap (λ (t : Totals). totals_more plan t one) at.totals ∙ sym (totals-one plan (marked plan proposals current) one) ∙ ap (totals_of plan) (sym longer);
      tallies = subst (λ (t : List Marked). AreTallies plan t new.tallies) all
          (tallies-one plan (earlier ++ marked plan proposals current) one old.tallies new.tallies at.tallies e-len
          (λ other within. e-lines other within ∙ rw (at.plan_is, at.rest) refl)
          (subst (λ (m : Marked). Notes plan m old.tallies.causes new.tallies.causes) same
          (subst (λ (p : Plan). Notes p (marked_by old.plan.now old.proposals.now b) old.tallies.causes new.tallies.causes) at.plan_is notes))
          (subst (λ (m : Marked). IsJoined plan m old.tallies new.tallies) same
          (subst (λ (p : Plan). IsJoined p (marked_by old.plan.now old.proposals.now b) old.tallies new.tallies) at.plan_is joined)));
    }

-- what is known of a block's group by the parts of its mark
pub group_parts : (p q r : Plan) (b : Block) (proposal : Option Proposal) (line cause : Option ℕ) (datagram : Option Datagram) (other : ℕ) (found middle old : Group) → q ≡ p → r ≡ p
    → line ≡ line_of r (proposed_line proposal) b → cause ≡ proposed_cause proposal → datagram ≡ datagram_of_block r.policy b → middle ≡ old
    → found ≡ group_by (group_of q cause) (unread_by q line b b.packet datagram) other middle → found ≡ group_more p other old (marked_of p proposal b)
group_parts p q r b proposal line cause datagram other found middle old eq er el ec ed em e = e ∙ rw (em, ed, ec, el, er, eq) refl

-- and of whether it needs an arrival or a carrier
pub owing_parts : (p q r : Plan) (b : Block) (proposal : Option Proposal) (line : Option ℕ) (datagram : Option Datagram) (found middle old : ℕ) → q ≡ p → r ≡ p
    → line ≡ line_of r (proposed_line proposal) b → datagram ≡ datagram_of_block r.policy b → middle ≡ old → found ≡ owing_with (owes_datagram q line b datagram) middle
    → found ≡ owing_more p old (marked_of p proposal b)
owing_parts p q r b proposal line datagram found middle old eq er el ed em e = e ∙ rw (em, ed, el, er, eq) refl

filter_yes : (xs : List Marked) (one : Marked) → is_written one ≡ true → filter is_written (xs ++ one ∷ []) ≡ filter is_written xs ++ one ∷ []
filter_yes xs one e = let last : filter is_written (one ∷ []) ≡ one ∷ [] = rw e refl in filter-append is_written xs (one ∷ []) ∙ ap (λ (t : List Marked). filter is_written xs ++ t) last

filter_no : (xs : List Marked) (one : Marked) → is_written one ≡ false → filter is_written (xs ++ one ∷ []) ≡ filter is_written xs
filter_no xs one e = let none : filter is_written (one ∷ []) ≡ [] = rw e refl in filter-append is_written xs (one ∷ []) ∙ ap (λ (t : List Marked). filter is_written xs ++ t) none ∙ append-nil (filter is_written xs)

abbrev bytes_in : List Marked → List ℕ
bytes_in xs = bytes_of (map (λ (one : Marked). one.block) xs)

bytes_in-one : (xs : List Marked) (one : Marked) → bytes_in (xs ++ one ∷ []) ≡ bytes_in xs ++ one.block.bytes
bytes_in-one xs one =
    let bytes = λ (b : Block). b.bytes in
    let block = λ (m : Marked). m.block in
    ap bytes_of (map-append block xs (one ∷ [])) ∙ ap concat (map-append bytes (map block xs) (one.block ∷ [])) ∙ concat-append (map bytes (map block xs)) (one.block.bytes ∷ [])
    ∙ ap (λ (t : List ℕ). bytes_in xs ++ t) (append-nil one.block.bytes)

pub written_yes : (xs : List Marked) (one : Marked) → is_written one ≡ true → written_of (xs ++ one ∷ []) ≡ written_of xs ++ one.block.bytes
written_yes xs one e = ap bytes_in (filter_yes xs one e) ∙ bytes_in-one (filter is_written xs) one

pub written_no : (xs : List Marked) (one : Marked) → is_written one ≡ false → written_of (xs ++ one ∷ []) ≡ written_of xs
written_no xs one e = ap bytes_in (filter_no xs one e)

marked-append : (plan : Plan) (proposals : List Proposal) (a b : List Block) → marked plan proposals (a ++ b) ≡ marked plan proposals a ++ marked plan (proposals_behind proposals a) b
marked-append plan proposals [] b = refl
marked-append plan proposals (first ∷ others) b = ap (λ (t : List Marked). marked_by plan proposals first ∷ t) (marked-append plan (behind first.packet proposals) others b)

bytes_in-append : (xs ys : List Marked) → bytes_in (xs ++ ys) ≡ bytes_in xs ++ bytes_in ys
bytes_in-append xs ys =
    let bytes = λ (b : Block). b.bytes in
    let block = λ (m : Marked). m.block in
    ap bytes_of (map-append block xs ys) ∙ ap concat (map-append bytes (map block xs) (map block ys)) ∙ concat-append (map bytes (map block xs)) (map bytes (map block ys))

-- what is written of blocks and of those behind them
pub written_of-append : (plan : Plan) (proposals : List Proposal) (a b : List Block)
    → written_of (marked plan proposals (a ++ b)) ≡ written_of (marked plan proposals a) ++ written_of (marked plan (proposals_behind proposals a) b)
written_of-append plan proposals a b =
    let first = marked plan proposals a in
    let second = marked plan (proposals_behind proposals a) b in
    ap written_of (marked-append plan proposals a b) ∙ ap bytes_in (filter-append is_written first second) ∙ bytes_in-append (filter is_written first) (filter is_written second)
