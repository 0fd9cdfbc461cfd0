-- What a head and its two tables hold. Assumes nothing.
use Rattle.std.specs.Prelude.{Bool}
use Rattle.project.specs.declared.tables.Tables.{Tables}
use Rattle.project.specs.Project.{Project, Sound, project_of, sound}

abbrev pub project_in : Tables → Project
project_in t = project_of t.head t.activities.now t.pairs.now

-- they give a project that keeps the rules, and hold all of it
abbrev pub AreSound : Tables → Type 0
AreSound t = Sound t.head t.activities.now t.pairs.now

-- the same as a test
abbrev pub are_sound : Tables → Bool
are_sound t = sound t.head t.activities.now t.pairs.now
