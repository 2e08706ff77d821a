use Rattle.std.proofs.Common.{◌≡◌, ℕ, ◌+◌, ◌≤◌, List, length}
use Rattle.prep_blocks.specs.declared.block.Block.{Block}
use Rattle.prep_users.specs.Rolls.{IsScanning, ScansOn}
use Rattle.prep_users.proofs.scan.Scan.feed.Given as goal

abbrev pub invariant-loop : goal.invariant-loop
invariant-loop l = record {
  secrets : l.roll.secrets ≡ l.fn.roll.secrets;
  scans : (text : List ℕ) (blocks : List Block) (earlier : List (List ℕ)) → IsScanning l.fn.self.splitter l.fn.roll.secrets l.fn.roll.accounts text blocks earlier →
      ScansOn l.self.splitter l.fn.roll.secrets l.roll.accounts text blocks earlier l.piece l.rest × (length l.rest + l.counter ≤ length l.piece);
}
