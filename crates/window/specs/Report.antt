-- "The report refuses by 5 only, with all values 0."
use Rattle.std.specs.Prelude.{replicate}
use Rattle.isa.specs.Reads.{choose}
use Rattle.renaming.specs.Range.{machine_in_range}
use Rattle.renaming.specs.Report.{committed_values}
use Rattle.renaming.specs.declared.Core.{Core}
use Rattle.window.specs.declared.Report.{Report}

unfoldable pub report_of : Core → Report
report_of m = choose (machine_in_range m) (record { registers = committed_values m; number = 0 }) (record { registers = replicate 32 0; number = 5 })
