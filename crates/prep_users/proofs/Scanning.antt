-- A capture's payloads, a block more.
use Rattle.std.proofs.Common.{◌≡◌, ℕ, List, [], ◌∷◌, ◌++◌, refl, sym, ap, subst, ◌∙◌, append_assoc}
use Rattle.std.proofs.lemmas.List.{append-nil}
use Rattle.std.proofs.lemmas.Grind.{flat_map-append}
use Rattle.prep_blocks.specs.declared.block.Block.{Block}
use Rattle.prep_blocks.specs.declared.splitter.BlockSplitter.{BlockSplitter}
use Rattle.prep_blocks.specs.Splitting.{StandsFor, Gave}
use Rattle.prep_users.specs.declared.account.Account.{Account}
use Rattle.prep_users.specs.declared.claim.Secret.{Secret}
use Rattle.prep_users.specs.Rolls.{AreProved, payload_at, payloads_in, IsScanning, ScansOn}

pub nothing_yet : (splitter : BlockSplitter) (secrets : List Secret) (accounts : List Account) (text : List ℕ) (bs : List Block) (earlier : List (List ℕ)) (piece : List ℕ)
    → IsScanning splitter secrets accounts text bs earlier → ScansOn splitter secrets accounts text bs earlier piece piece
nothing_yet splitter secrets accounts text bs earlier piece s = record {
  taken = [];
  more = [];
  cut = refl;
  scanning = rw (append-nil text, append-nil bs) s;
}

payloads-one : (bs : List Block) (b : Block) → payloads_in (bs ++ b ∷ []) ≡ payloads_in bs ++ payload_at b b.packet
payloads-one bs b = flat_map-append (λ (x : Block). payload_at x x.packet) bs (b ∷ []) ∙ ap (λ (t : List (List ℕ)). payloads_in bs ++ t) (append-nil (payload_at b b.packet))

pub step : (old new : BlockSplitter) (secrets : List Secret) (accounts accounts' : List Account) (text : List ℕ) (bs : List Block) (earlier : List (List ℕ)) (piece rest behind : List ℕ) (b : Block)
    → (g : ScansOn old secrets accounts text bs earlier piece rest) → Gave new (text ++ g.taken) (bs ++ g.more) rest b behind
    → AreProved secrets accounts' ((earlier ++ payloads_in (bs ++ g.more)) ++ payload_at b b.packet) → ScansOn new secrets accounts' text bs earlier piece behind
step old new secrets accounts accounts' text bs earlier piece rest behind b g gave proved =
    let all : (earlier ++ payloads_in (bs ++ g.more)) ++ payload_at b b.packet ≡ earlier ++ payloads_in ((bs ++ g.more) ++ b ∷ []) =
    append_assoc earlier (payloads_in (bs ++ g.more)) (payload_at b b.packet) ∙ ap (λ (t : List (List ℕ)). earlier ++ t) (sym (payloads-one (bs ++ g.more) b)) in
    record {
      taken = g.taken ++ gave.taken;
      more = g.more ++ b ∷ [];
      cut = g.cut ∙ ap (λ (t : List ℕ). g.taken ++ t) gave.cut ∙ sym (append_assoc g.taken gave.taken behind);
      scanning = subst (λ (t : List ℕ). IsScanning new secrets accounts' t (bs ++ (g.more ++ b ∷ [])) earlier) (append_assoc text g.taken gave.taken)
          (subst (λ (t : List Block). IsScanning new secrets accounts' ((text ++ g.taken) ++ gave.taken) t earlier) (append_assoc bs g.more (b ∷ []))
          (record { splits = gave.stands; proved = subst (AreProved secrets accounts') all proved }));
    }

pub all_taken : (old new : BlockSplitter) (secrets : List Secret) (accounts : List Account) (text : List ℕ) (bs : List Block) (earlier : List (List ℕ)) (piece rest : List ℕ)
    → (g : ScansOn old secrets accounts text bs earlier piece rest) → StandsFor new ((text ++ g.taken) ++ rest) (bs ++ g.more) → ScansOn new secrets accounts text bs earlier piece []
all_taken old new secrets accounts text bs earlier piece rest g stands = record {
  taken = g.taken ++ rest;
  more = g.more;
  cut = g.cut ∙ sym (append-nil (g.taken ++ rest));
  scanning = subst (λ (t : List ℕ). IsScanning new secrets accounts t (bs ++ g.more) earlier) (append_assoc text g.taken rest)
      (record { splits = stands; proved = g.scanning.proved });
}

pub at_end : (splitter : BlockSplitter) (secrets : List Secret) (accounts : List Account) (text : List ℕ) (bs : List Block) (earlier : List (List ℕ)) (piece rest : List ℕ)
    → rest ≡ [] → ScansOn splitter secrets accounts text bs earlier piece rest → ScansOn splitter secrets accounts text bs earlier piece []
at_end splitter secrets accounts text bs earlier piece rest none g = subst (λ (t : List ℕ). ScansOn splitter secrets accounts text bs earlier piece t) none g
