-- The paper's session prints as the paper has it: by computing.
-- Assumes nothing.
use mathlib.Core.Path.{refl}
use Rattle.buffer.specs.Buffer.{put_at, placed}
use Rattle.can_frame.specs.Frame.{kind_of_frame, addressed, role_of, frame_of}
use Rattle.space_lookup.specs.Description.{find_space}
use Rattle.call_error.specs.CallErrors.{among, spaces_check, description_check}
use Rattle.cmd_fields.specs.Commands as commands
use Rattle.cmd_fields.specs.Commands.{pairs_of, head_bytes, rest_of}
use Rattle.cmd_decode.specs.Decoding.{decode_read, decode_write, decode_masked, decode_kind, decode}
use Rattle.rx_place_spec.specs.Ticks.{is_due, drop_due}
use Rattle.rx_spec.specs.Order.{handle_frame}
use Rattle.rx_place_spec.specs.PlaceBytes.{places_in}
use Rattle.rx_spec.specs.Reception.{is_for, kept_in, join_sound, receive}
use Rattle.tx_cut_spec.specs.Cutting.{rest_frames, frames_of, cut_frames}
use Rattle.tx_transport.specs.Transport.{received_ok, rejected_with}
use Rattle.exec_store.specs.Storing.{masked, store_masked}
use Rattle.exec_spec.specs.Access.{read_result, write_result, memory_after}
use Rattle.exec_spec.specs.Handling.{perform, handle}
use Rattle.node_spec.specs.CallerErrors.{earlier_check, frame_check}
use Rattle.node_spec.specs.FrameCall.{frame_call}
use Rattle.node_send.specs.Sending.{frames_to_send}
use Rattle.hex_digit.specs.Digit.{digit_value, digit_of}
use Rattle.hex_print.specs.Digits.{digits_of, hex_digits, all_digits, number_in}
use Rattle.hex_read.specs.Reading.{bytes_in}
use Rattle.gridconnect_print.specs.Line.{line_of, frame_text}
use Rattle.gridconnect_parse.specs.Form.{formed}
use Rattle.gridconnect_parse.specs.Parsing.{parse_of}
use Rattle.gridconnect_frames.specs.Printing.{frames_text}
use Rattle.gridconnect_input.specs.Input.{completed, unfinished, end_line}
use Rattle.gridconnect_session_spec.specs.Turn.{answer_line}
use Rattle.gridconnect_session_spec.specs.Session.{answer_lines}
use Rattle.demo_board.specs.PaperSession.{PaperSession}

pub paper_session : PaperSession
unfolding put_at placed kind_of_frame addressed role_of frame_of find_space among spaces_check description_check pairs_of commands.kind_of_command rest_of decode_read decode_write decode_masked decode_kind decode is_due drop_due handle_frame places_in is_for kept_in join_sound receive rest_frames frames_of cut_frames received_ok rejected_with head_bytes read_result write_result memory_after masked store_masked perform handle earlier_check frame_check frame_call frames_to_send digit_value digit_of all_digits digits_of bytes_in hex_digits number_in line_of formed parse_of frame_text frames_text completed unfinished end_line answer_line answer_lines
paper_session = refl
