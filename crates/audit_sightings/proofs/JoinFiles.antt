-- What an intake stands for that has the files of two.
use Rattle.std.proofs.Common.{◌≡◌, ℕ, ◌+◌, ◌-◌, ◌*◌, ◌/◌, ◌%◌, ◌<◌, ◌≤◌, max, List, [], ◌++◌, length, drop, get_or, inl, inr, sym, ap, subst, ◌∙◌, arith, vec_len}
use Rattle.std.specs.Prelude.{replicate, filter, ◌==◌}
use Rattle.std.proofs.lemmas.Bool.{cases_lt}
use Rattle.std.proofs.lemmas.List.{length-append, length-replicate, get_or_append_left, get_or-append_right, get_or-drop}
use Rattle.audit_model.specs.declared.policy.Policy.{Policy}
use Rattle.audit_pcapng.specs.declared.packet.Packet.{Packet}
use Rattle.audit_sightings.specs.declared.intake.Intake.{Intake}
use Rattle.audit_sightings.specs.ByInterface.{of_interface}
use Rattle.audit_sightings.specs.Files.{Fed, not_fed, fed_at, packets_of, StandsFor}
use Rattle.audit_sightings.specs.Joins.{Joins}
use Rattle.audit_sightings.specs.Sightings.{AreSightings, AreSound, sightings_of}
use Rattle.audit_sightings.proofs.FilesSteps.{fed_at-past, none_given, read_as, sound_as}

-- an intake has no interfaces of files that it doesn't have
few_by_files : (intake : Intake) (files : List Fed) → StandsFor intake files → length intake.interfaces ≤ 64 * length files
few_by_files intake files stands = elim (cases_lt (64 * length files) (length intake.interfaces)) [
  | inl more ↦
      let last : ℕ = length intake.interfaces - 1 in
      let file : ℕ = last / 64 in
      let number : ℕ = last % 64 in
      let place : 64 * file + number ≡ last = omega arith in
      let none : packets_of files file ≡ [] = ap (λ (fed : Fed). fed.packets) (fed_at-past files file (omega (arith, more))) in
      let empty : of_interface intake.interfaces (64 * file + number) ≡ [] =
      stands.sightings.each file number (omega arith) ∙ ap (λ (packets : List Packet). sightings_of intake.policy (64 * file + number) (filter (λ packet. packet.iface == number) packets)) none ∙ sym (none_given intake.policy (64 * file + number)) in
      absurd (stands.sightings.last last (omega (arith, more)) (ap (λ (n : ℕ). of_interface intake.interfaces n) (sym place) ∙ empty))
  | inr few ↦ few
]

-- the files below the number of the other's first, and from there on
fed_before : (files others : List Fed) (file : ℕ) → file < length files → fed_at (files ++ others) file ≡ fed_at files file
fed_before files others file less = get_or_append_left files others not_fed file less

fed_behind : (files others : List Fed) (file : ℕ) → length files ≤ file → fed_at (files ++ others) file ≡ fed_at (replicate (length files) not_fed ++ others) file
fed_behind files others file more =
    get_or-append_right files others (length files) file not_fed (λ i. length files) more
    ∙ sym (get_or-append_right (replicate (length files) not_fed) others (length files) file not_fed (length-replicate (length files) not_fed) more)

pub stands_joined : (one other new : Intake) (files others : List Fed) → StandsFor one files → StandsFor other (replicate (length files) not_fed ++ others) → new.failed ≡ other.failed → new.policy ≡ one.policy → other.policy ≡ one.policy
    → Joins (64 * vec_len one.files) one.interfaces other.interfaces new.interfaces → vec_len one.files ≡ length one.files.items → new.files.items ≡ one.files.items ++ drop (vec_len one.files) other.files.items
    → vec_len new.files ≡ max (vec_len one.files) (vec_len other.files) → StandsFor new (files ++ others)
stands_joined one other new files others here there failed policy same joins len items long =
    let count : ℕ = vec_len one.files in
    let both : List Fed = files ++ others in
    let apart : List Fed = replicate (length files) not_fed ++ others in
    let lengths : length files + length others ≡ vec_len other.files = omega (arith, there.count, length-append (replicate (length files) not_fed) others, length-replicate (length files) not_fed) in
    let sightings : AreSightings one.policy new.interfaces (packets_of both) = record {
      each = λ file number less. elim (cases_lt file count) [
        | inl before ↦ joins.below (64 * file + number) (omega (arith, before, less)) ∙ here.sightings.each file number less
            ∙ ap (λ (fed : Fed). sightings_of one.policy (64 * file + number) (filter (λ packet. packet.iface == number) fed.packets)) (sym (fed_before files others file (omega (arith, before, here.count))))
        | inr behind ↦ joins.behind (64 * file + number) (omega (arith, behind)) ∙ there.sightings.each file number less
            ∙ ap (λ (p : Policy). sightings_of p (64 * file + number) (filter (λ packet. packet.iface == number) (packets_of apart file))) same
            ∙ ap (λ (fed : Fed). sightings_of one.policy (64 * file + number) (filter (λ packet. packet.iface == number) fed.packets)) (sym (fed_behind files others file (omega (arith, behind, here.count))))
      ];
      last = joins.tight (omega (arith, few_by_files one files here, here.count)) here.sightings.last there.sightings.last;
    } in
    record {
      unfailed = failed ∙ there.unfailed;
      count = omega (arith, length-append files others, lengths, here.count, long);
      read = λ file none less. rw items (elim (cases_lt file count) [
        | inl before ↦ rw (get_or_append_left one.files.items (drop count other.files.items) none file (omega (arith, before, len)))
            (read_as (get_or one.files.items file none) _ _ (fed_before files others file (omega (arith, before, here.count))) (here.read file none before))
        | inr behind ↦
            let place : count + (file - count) ≡ file = omega (arith, behind) in
            rw (get_or-append_right one.files.items (drop count other.files.items) count file none (sym len) behind, get_or-drop count other.files.items (file - count) none, place)
            (read_as (get_or other.files.items file none) _ _ (fed_behind files others file (omega (arith, behind, here.count))) (there.read file none (omega (arith, less, long, behind))))
      ]);
      sound = λ file. rw policy (elim (cases_lt file count) [
        | inl before ↦ sound_as one.policy _ _ (fed_before files others file (omega (arith, before, here.count))) (here.sound file)
        | inr behind ↦ sound_as one.policy _ _ (fed_behind files others file (omega (arith, behind, here.count))) (subst (λ (p : Policy). AreSound p (packets_of apart file)) same (there.sound file))
      ]);
      sightings = rw policy sightings;
    }
