-- What contracts see of a folder in memory: what it began with, what was done since, the latest first, and how its calls go. Own.
use Rattle.std.specs.Prelude.{List}
use Rattle.cas_disk.specs.declared.memory.MemFolder.{MemFolder}
use Rattle.cas_disk.specs.declared.event.Event.{Event}
use Rattle.cas_disk.specs.declared.plan.Course.{Course}
use Rattle.cas_disk.specs.Disk.{Image}
use Rattle.cas_disk.specs.Inner.Past.{image_of}

abbrev pub start_of : MemFolder → Image
start_of m = image_of m.start.items

abbrev pub past_of : MemFolder → List Event
past_of m = m.past.items

-- which of its calls fail, and how many there were
abbrev pub course_of : MemFolder → Course
course_of m = m.course
