-- Words of what is answered to a module, a file of constants and a trace, and of what a whole trace promises.
pub mod Traced
pub mod Promised
