use Rattle.std.proofs.Common.{◌≡◌, length, option_map}
use Rattle.git_config_lite.specs.Values.{parse_value_piece_from_place, parse_value_piece, piece_with_elements_before}
use Rattle.git_config_lite.proofs.value.read_value_piece_of_line.Given as goal

abbrev pub invariant-loop-first : goal.invariant-loop-first
invariant-loop-first l = option_map (piece_with_elements_before l.elements.items) (parse_value_piece_from_place l.place l.rest) ≡ option_map (piece_with_elements_before l.fn.elements.items) (parse_value_piece l.line)

abbrev pub decreases-loop-first : goal.decreases-loop-first
decreases-loop-first l = length l.rest
