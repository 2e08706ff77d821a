-- An audit of what was written, said of what it was cut out of.
use Rattle.std.proofs.Common.{◌≡◌, ◌<◌, ◌+◌, ◌*◌, ◌==◌, ℕ, List, [], length, map, filter, Option, sym, ap, subst, ◌∙◌, inl, inr, arith}
use Rattle.std.specs.Prelude.{slice_index_or}
use Rattle.std.proofs.lemmas.Bool.{cases_lt}
use Rattle.std.proofs.lemmas.List.{length-map, get_or-map, get_or_past}
use Rattle.audit_files.specs.Judged.{IsAudited}
use Rattle.audit_files.proofs.Audited.{told_conforming}
use Rattle.audit_model.specs.declared.certificate.Certificate.{Certificate}
use Rattle.audit_pcapng.specs.declared.packet.Packet.{Packet}
use Rattle.audit_pcapng.specs.Captures.{IsCapture}
use Rattle.audit_sightings.specs.Files.{Fed, not_fed, fed_at, packets_of}
use Rattle.audit_sightings.specs.Sightings.{sightings_of}
use Rattle.prep_cut.specs.declared.plan.Plan.{Plan}
use Rattle.prep_verdict.specs.Audited.{no_capture, capture_at, AreWhole, ExplainsTheRest}
use Rattle.prep_verdict.specs.Rest.{Capture, packets_in, stays, written}
use Rattle.prep_verdict.proofs.Stays.{written_has}

module _ (plan : Plan) (captures : List Capture) (files : List Fed) (same : map (λ (fed : Fed). fed.text) files ≡ map (written plan) captures) where
  as_many : length files ≡ length captures
  as_many = sym (length-map files (λ (fed : Fed). fed.text)) ∙ ap length same ∙ length-map captures (written plan)

  text_at : (file : ℕ) → file < length files → (fed_at files file).text ≡ written plan (capture_at captures file)
  text_at file lt =
      sym (get_or-map (λ (fed : Fed). fed.text) files file not_fed [] lt) ∙ ap (λ (texts : List (List ℕ)). slice_index_or texts file []) same
      ∙ get_or-map (written plan) captures file no_capture [] (omega (arith, lt, as_many))

  packets_at : AreWhole captures → ((file : ℕ) → file < length files → IsCapture (fed_at files file).text (packets_of files file)) → (file : ℕ) → packets_of files file ≡ packets_in (stays plan (capture_at captures file))
  packets_at whole ended file = elim (cases_lt file (length files)) [
    | inl lt ↦ written_has plan (capture_at captures file) (packets_of files file) (whole file (omega (arith, lt, as_many)))
        (subst (λ (text : List ℕ). IsCapture text (packets_of files file)) (text_at file lt) (ended file lt))
    | inr ge ↦ ap (λ (fed : Fed). fed.packets) (get_or_past files file not_fed ge) ∙ sym (ap (λ (capture : Capture). packets_in (stays plan capture)) (get_or_past captures file no_capture (omega (arith, ge, as_many))))
  ]

pub explained : (plan : Plan) (captures : List Capture) (policy users : List ℕ) (certificate : Certificate) (before after : Option (List ℕ)) → AreWhole captures
    → IsAudited policy users (map (written plan) captures) certificate before after 0 → ExplainsTheRest plan captures policy users certificate
explained plan captures policy users certificate before after whole audited =
    let taken = audited.taken in
    let read = audited.read.captures' in
    let same = packets_at plan captures read.files read.of_texts whole read.ended in
    record {
      taken = taken;
      key_for = audited.key_for;
      policy' = audited.read.policy';
      users' = audited.read.users';
      sightings = record {
        each = λ file number few. read.sightings.each file number few
            ∙ ap (λ (packets : List Packet). sightings_of taken.policy (64 * file + number) (filter (λ packet. packet.iface == number) packets)) (same file);
        last = read.sightings.last;
      };
      headline = audited.judged.headline (told_conforming audited.judged.verdict audited.judged.told);
    }
