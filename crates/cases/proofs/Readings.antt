-- P13 of document 01 and the cases of T-02, computed. This file alone unfolds the model, as the table asks.
-- Assumes nothing.
use Rattle.laws.specs.Tests.{◌also◌}
use Rattle.board.specs.declared.Board.TheVariants.{Display}
use Rattle.board.specs.Boards.{rows_display}
use Rattle.laws.specs.Words.{bit}
use Rattle.board.specs.Table as table
use Rattle.register_file.specs.Registers.{fresh_file, fresh_regs, index, faddr, side_word, side_of, side_in, with_side_in, side_at, with_side}
use Rattle.csr.specs.Sound.{side_sound}
use Rattle.register_file.specs.Sound.{words_below, sides_below, regs_sound}
use Rattle.transfer_rules.specs.Peek.{short_in, ended}
use Rattle.record.specs.Record as whole
use Rattle.record.specs.Record.{fresh_record, area_in, area_of, need_in, need_of, flags_sound, record_sound, endpoints_in, endpoints_of}
use Rattle.cases.specs.Allocations.{Hold}
use Rattle.transfer_rules.specs.ReadTests.{not_readable, not_setup, overflows, own_tests_at, tests_in}
use Rattle.transfer_rules.specs.ReadZero.{rx_size, data_out, read_zero}
use Rattle.transfer_rules.specs.Read.{read_other, got, read_done, read_in, read_call}
use Rattle.cases.specs.Readings.{readings, buffers}

both : Hold (readings Display) × Hold (buffers Display)
unfolding ◌also◌ bit fresh_file fresh_regs index faddr side_in side_of side_at side_word with_side_in with_side side_sound words_below sides_below regs_sound short_in fresh_record area_in area_of need_in need_of table.sizes_of flags_sound whole.passes record_sound endpoints_in endpoints_of not_readable not_setup overflows own_tests_at tests_in ended rx_size data_out read_zero read_other got read_done read_in read_call
both = (rw rows_display, rw rows_display)

pub p13 : Hold (readings Display)
p13 = both.0

pub t02 : Hold (buffers Display)
t02 = both.1
