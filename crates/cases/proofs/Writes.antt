-- P11 and P12 of document 01, computed. This file alone unfolds the model, as the table asks.
-- Assumes nothing.
use Rattle.laws.specs.Tests.{◌also◌}
use Rattle.board.specs.declared.Board.TheVariants.{Display}
use Rattle.board.specs.Boards.{rows_display}
use Rattle.laws.specs.Words.{bit}
use Rattle.board.specs.Table as table
use Rattle.register_file.specs.Registers.{fresh_file, fresh_regs, index, faddr, side_of, side_in, side_at}
use Rattle.csr.specs.Sound.{side_sound}
use Rattle.register_file.specs.Sound.{words_below, sides_below, regs_sound}
use Rattle.transfer_rules.specs.Peek.{short_in, ended}
use Rattle.record.specs.Record as whole
use Rattle.record.specs.Record.{fresh_record, area_in, area_of, need_in, need_of, flags_sound, record_sound, endpoints_in, endpoints_of}
use Rattle.cases.specs.Allocations.{Hold}
use Rattle.transfer_rules.specs.WriteTests.{too_long, not_writable, own_tests_at, tests_in}
use Rattle.transfer_rules.specs.WriteZero.{tx_size_in, tx_size, data_in, sent_data_in}
use Rattle.transfer_rules.specs.Write.{sent, write_done, write_in, write_call}
use Rattle.cases.specs.Writes.{writes}

pub p11_and_p12 : Hold (writes Display)
unfolding ◌also◌ bit fresh_file fresh_regs index faddr side_in side_of side_at side_sound words_below sides_below regs_sound fresh_record area_in area_of need_in need_of table.sizes_of flags_sound whole.passes record_sound endpoints_in endpoints_of short_in too_long not_writable own_tests_at tests_in tx_size_in tx_size ended data_in sent_data_in sent write_done write_in write_call
p11_and_p12 = rw rows_display
