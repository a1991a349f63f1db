-- `doors::is_true_list` meets its contract.
use Rattle.doors.proofs.Changes.{few_numbers}
use Rattle.doors.proofs.is_true_list.Goals as goal

pub is_true_list_with_room-requires : goal.is_true_list_with_room-requires
is_true_list_with_room-requires c = record { sound = c.requires.sound; near = c.requires.near; corners_in_bounds = (few_numbers c.requires.sound.0, c.requires.reach_le_most_reach); lines_len = c.requires.lines_len }
