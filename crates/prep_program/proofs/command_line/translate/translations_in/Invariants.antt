use Rattle.std.proofs.Common.{◌≡◌, ◌++◌, drop, map, option_map}
use Rattle.prep_translate.specs.Words.{pair_of}
use Rattle.prep_program.specs.Requests.{all_read}
use Rattle.prep_program.proofs.command_line.translate.translations_in.Given as goal

-- what was read so far and what the rest is read as are what all are read as
abbrev pub invariant-loop-word : goal.invariant-loop-word
invariant-loop-word l =
    option_map (λ rest. l.translations.items ++ rest) (all_read pair_of (map (λ word. word.now) (drop l.word-index l.words))) ≡ all_read pair_of (map (λ word. word.now) l.words)
