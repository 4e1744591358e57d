-- The counts of what stands for the system.
use Rattle.std.specs.Prelude.{ℕ}
use Rattle.disk_file.specs.declared.host_disks.HostDisks.{HostDisks}
use Rattle.disk_file.specs.declared.host_sources.HostSources.{HostSources}
use Rattle.disk_file.specs.declared.host_sink.HostSink.{HostSink}

abbrev pub host_opens : HostDisks → ℕ
host_opens s = s.calls

abbrev pub host_open_faults : HostDisks → ℕ
host_open_faults s = s.faults

abbrev pub host_loads : HostSources → ℕ
host_loads s = s.calls

abbrev pub host_load_faults : HostSources → ℕ
host_load_faults s = s.faults

abbrev pub host_put_faults : HostSink → ℕ
host_put_faults s = s.faults
