-- Words of what is answered to a module, a file of constants and a script, and of what a run promises.
pub mod Chosen
pub mod Stops
pub mod Promised
pub mod LimitedRuns
