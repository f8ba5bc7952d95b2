-- What is read of the volumes of an array over its life: by commands, and by calls of the program.
pub mod Lives
pub mod CallLives
pub mod Example
