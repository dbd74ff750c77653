use Rattle.std.proofs.Common.{arith}
use Rattle.ct_inq.proofs.Sizes.{length-inquiry, length-capacity_10, length-capacity_16, length-luns_most}
use Rattle.ct_pages.proofs.Sizes.{length-data}
use Rattle.ct_exec.proofs.data.push_data_by.Goals as goal

pub inquiry-requires : goal.inquiry-requires
inquiry-requires c = record { room = omega (arith, length-inquiry c.in-Inquiry.page c.in-Inquiry.allocation c.lun.result.0, rw c.in-Inquiry.is at c.requires) }

pub report_luns-requires : goal.report_luns-requires
report_luns-requires c = record { room = omega (arith, length-luns_most c.in-ReportLuns.select c.in-ReportLuns.allocation c.args.visible, rw c.in-ReportLuns.is at c.requires) }

pub capacity_10-requires : goal.capacity_10-requires
capacity_10-requires c = omega (arith, length-capacity_10 c.args.blocks, rw c.in-ReadCapacity10.is at c.requires)

pub capacity_16-requires : goal.capacity_16-requires
capacity_16-requires c = omega (arith, length-capacity_16 c.args.blocks c.in-ReadCapacity16.allocation, rw c.in-ReadCapacity16.is at c.requires)

pub sense_mode-requires : goal.sense_mode-requires
sense_mode-requires c = omega (arith, length-data c.pages.result c.args.blocks c.in-ModeSense.form c.in-ModeSense.no_descriptor c.in-ModeSense.control c.in-ModeSense.page c.in-ModeSense.allocation, rw c.in-ModeSense.is at c.requires)
