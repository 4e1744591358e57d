-- The laws of a disk that keeps its calls, for the disk as its users see it.
use Rattle.std.specs.Prelude.{ℕ, ◌≤◌, List}
use Rattle.disk_memory.specs.declared.medium.Medium.{Medium}
use Rattle.disk_memory.specs.Calls.{ops_of}
use Rattle.disk_memory.specs.Laws.{now_counts, now_only, reads_is_image}
use Rattle.disk_memory.specs.Media.{medium_seen, medium_images, medium_moment, medium_since}

pub medium_counts_now : (m : Medium) (t : ℕ) (c : List ℕ) → t ≤ medium_moment m → medium_images m c → medium_since m t c
medium_counts_now m t c le now = now_counts m.first.items m.calls.items m.store.items t c le now

pub medium_only_now : (m : Medium) (c : List ℕ) → medium_since m (medium_moment m) c → medium_images m c
medium_only_now m c left = now_only m.first.items m.calls.items m.store.items c left

pub medium_reads_image : (m : Medium) → medium_images m (medium_seen m)
medium_reads_image m = reads_is_image m.first.items (ops_of m.calls.items m.store.items) m.bytes.items m.replays m.placed
